-- What loads read and stores write in a memory, which is a list of bytes (V8, appendix B, load and store integer instructions).
-- "Memory is big-endian" (document 01): of the bytes of a number, the one at the lowest place is the most significant.
use Rattle.std.specs.Prelude.{ℕ, zero, suc, ◌+◌, ◌*◌, ◌/◌, ◌%◌, ◌^◌, ◌<◌, List, [], ◌∷◌, get_or}
use Rattle.std.proofs.lemmas.List.Edits.{sets}
use Rattle.v8.specs.Signed.{sign_extend}
use Rattle.v8.specs.declared.LoadOp.{LoadOp}
use Rattle.v8.specs.declared.LoadOp.TheVariants.{Ld, Ldub, Lduh, Ldsb, Ldsh}
use Rattle.v8.specs.declared.StoreOp.{StoreOp}
use Rattle.v8.specs.declared.StoreOp.TheVariants.{St, Stb, Sth}

-- the byte at a place
abbrev pub byte_at : List ℕ → ℕ → ℕ
byte_at m a = get_or m a 0

-- every number in the list is a byte
abbrev pub Bytes : List ℕ → Type 0
Bytes m = (i : ℕ) → byte_at m i < 256

-- the halfword at a place: two bytes, the more significant first
abbrev pub half_at : List ℕ → ℕ → ℕ
half_at m a = byte_at m a * 256 + byte_at m (a + 1)

-- the word at a place: two halfwords, the more significant first
abbrev pub word_at : List ℕ → ℕ → ℕ
word_at m a = half_at m a * 65536 + half_at m (a + 2)

-- how many bytes a load reads
abbrev pub load_width : LoadOp → ℕ
load_width Ld = 4
load_width Ldub = 1
load_width Lduh = 2
load_width Ldsb = 1
load_width Ldsh = 2

-- what a load at a place puts into the register: a word as it is, an unsigned part zero-extended, a signed part sign-extended
abbrev pub load_of : LoadOp → List ℕ → ℕ → ℕ
load_of Ld m a = word_at m a
load_of Ldub m a = byte_at m a
load_of Lduh m a = half_at m a
load_of Ldsb m a = sign_extend 8 (byte_at m a)
load_of Ldsh m a = sign_extend 16 (half_at m a)

-- how many bytes a store writes
abbrev pub store_width : StoreOp → ℕ
store_width St = 4
store_width Stb = 1
store_width Sth = 2

-- the n low bytes of a value, the most significant first
abbrev pub low_bytes : ℕ → ℕ → List ℕ
low_bytes zero v = []
low_bytes (suc n) v = v / 256 ^ n % 256 ∷ low_bytes n v

-- the memory after the store of a value at a place: the value's low bytes stand from there on, one after the other, all else
-- as it was
abbrev pub store_of : StoreOp → ℕ → ℕ → List ℕ → List ℕ
store_of op v a m = sets m a (low_bytes (store_width op) v)
