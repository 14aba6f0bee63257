-- What an access needs of a field: its width, its element and its permission (document 01: "LD and ST serve elements 5 to 7,
-- stores either sign"; "a permission (1 read, 2 write, 3 both)"). The check and the machine share these.
use Rattle.std.specs.Prelude.{ℕ, Bool, ◌&&◌, ◌||◌, leb, eqb}
use Rattle.v8.specs.declared.Operand.{Operand}
use Rattle.v8.specs.declared.Operand.TheVariants.{Reg, Imm}
use Rattle.v8.specs.declared.Displacement.{Displacement}
use Rattle.v8.specs.declared.Displacement.TheVariants.{Index, Bytes}
use Rattle.v8.specs.declared.LoadOp.{LoadOp}
use Rattle.v8.specs.declared.LoadOp.TheVariants.{Ld, Ldub, Lduh, Ldsb, Ldsh}
use Rattle.v8.specs.declared.StoreOp.{StoreOp}
use Rattle.v8.specs.declared.StoreOp.TheVariants.{St, Stb, Sth}
use Rattle.policy.specs.Policy.{readable, writable}
use Rattle.memory.specs.Memory.{load_width, store_width}
use Rattle.v8.specs.declared.Access.{Access}
use Rattle.v8.specs.declared.Access.TheVariants.{Loads, Stores}

-- how many bytes an access touches
abbrev pub access_width : Access → ℕ
access_width (Loads op) = load_width op
access_width (Stores op) = store_width op

-- an access is LD or ST, those of a word
abbrev pub is_word : Access → Bool
is_word a = eqb (access_width a) 4

-- a load serves an element of its width and sign
abbrev pub load_serves : LoadOp → ℕ → Bool
load_serves Ld e = leb 5 e && leb e 7
load_serves Ldub e = eqb e 1
load_serves Lduh e = eqb e 3
load_serves Ldsb e = eqb e 2
load_serves Ldsh e = eqb e 4

-- a store serves an element of its width, of either sign
abbrev pub store_serves : StoreOp → ℕ → Bool
store_serves St e = leb 5 e && leb e 7
store_serves Stb e = eqb e 1 || eqb e 2
store_serves Sth e = eqb e 3 || eqb e 4

-- an access serves an element
abbrev pub serves : Access → ℕ → Bool
serves (Loads op) e = load_serves op e
serves (Stores op) e = store_serves op e

-- a permission allows an access
abbrev pub allows : Access → ℕ → Bool
allows (Loads op) permission = readable permission
allows (Stores op) permission = writable permission

-- an address's second part, as the operand that is added
abbrev pub addend : Displacement → Operand
addend (Index r) = Reg r
addend (Bytes d) = Imm d.0
