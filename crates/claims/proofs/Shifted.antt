-- What begins at a byte of a list is what begins at byte 0 of the list without the bytes before it. So the form of a row can be read from the bytes
-- that begin with each of its places: a byte far into a list costs the prover much, since it passes all bytes before it one by one.
use Rattle.std.specs.Prelude.{Option}
use Prim.Native.Nat.{ℕ, ◌+◌, ◌*◌}
use mathlib.Core.Path.{◌≡◌, sym, ap, fun_ext, ◌∙◌}
use mathlib.Core.Bool.{Bool, cond, not}
use mathlib.Core.List.{List}
use native.Mathlib.Omega.{arith}
use lib.Dec.{eqb}
use lib.ListN.{drop}
use lib.Seq.{get_or-drop, drop-drop}
use Rattle.memory.specs.Memory.{byte_at}
use Rattle.rows.specs.Flaw.{flaw_from}
use Rattle.rows.specs.Geometry.{entry_bytes, note_bytes, note_offset, note_start, note_name, entry_start, entry_named}
use Rattle.rows.specs.Row.{note_formed, entry_formed_as, formed_at, form_fault}
use Rattle.claims.proofs.Agreeing.{Agree, same_entry, same_note}

-- the bytes from a byte on are those of the list without the bytes before it
from_there : (bytes : List ℕ) (at n : ℕ) → Agree bytes (drop at bytes) at 0 n
from_there bytes at n j l = ap (λ (k : ℕ). byte_at bytes (at + k)) (none j) ∙ sym (get_or-drop at bytes (0 + j) 0)
  where
    none : (k : ℕ) → k ≡ 0 + k
    none k = omega arith

-- so the form of an entry or a note there is that of the one at byte 0
entry_there : (regions : ℕ) (sizes bytes : List ℕ) (at i : ℕ) → entry_formed_as regions sizes bytes at i ≡ entry_formed_as regions sizes (drop at bytes) 0 i
entry_there regions sizes bytes at i =
    let k = from_there bytes at entry_bytes in
    rw (k 3 (omega arith), same_entry bytes (drop at bytes) at 0 k)

note_there : (bytes : List ℕ) (at : ℕ) → note_formed bytes at ≡ note_formed (drop at bytes) 0
note_there bytes at =
    let k = from_there bytes at note_bytes in
    rw (k 2 (omega arith), k 3 (omega arith), same_note bytes (drop at bytes) at 0 k)

-- the place so named of a row is well formed, read from the bytes that begin with it
abbrev pub formed_from : ℕ → List ℕ → List ℕ → ℕ → Bool
formed_from regions sizes row place =
    cond (eqb place note_name) (note_formed (drop note_offset row) 0)
    (entry_formed_as regions sizes (drop (entry_bytes * entry_named place) row) 0 (entry_named place))

-- the lowest badly formed place of a row, so read
abbrev pub form_from : ℕ → List ℕ → List ℕ → Option ℕ
form_from regions sizes row = flaw_from (λ (place : ℕ). not (formed_from regions sizes row place)) 0

formed-from : (regions : ℕ) (sizes bytes : List ℕ) (at place : ℕ) → formed_at regions sizes bytes at place ≡ formed_from regions sizes (drop at bytes) place
unfolding formed_at
formed-from regions sizes bytes at place =
    let i = entry_named place in
    rw (note_there bytes (note_start at), entry_there regions sizes bytes (entry_start at i) i, drop-drop note_offset at bytes, drop-drop (entry_bytes * i) at bytes)

-- the form of a row at a byte is that of the bytes from there on
pub form-from : (regions : ℕ) (sizes bytes : List ℕ) (at : ℕ) → form_fault regions sizes bytes at ≡ form_from regions sizes (drop at bytes)
unfolding form_fault
form-from regions sizes bytes at = ap (λ (f : ℕ → Bool). flaw_from (λ (place : ℕ). not (f place)) 0) (fun_ext (formed-from regions sizes bytes at))
