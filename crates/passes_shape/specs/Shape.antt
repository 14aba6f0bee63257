-- The shape of what is handed in (document 01, "Order of the check, and its numbers", 21), which the check and the listing of kinds share.
use Rattle.std.specs.Prelude.{ℕ, ◌*◌, Bool, ◌&&◌, List, leb, eqb, length}
use Rattle.v8.specs.Numbers.{most_words}
use Rattle.policy.specs.declared.Policy.{Policy}
use Rattle.rows.specs.Geometry.{row_bytes, entry_bytes}
use Rattle.rows.specs.Flaw.{flawless}
use Rattle.rows.specs.Row.{entry_formed_as, form_fault, scratch_unset}

-- r8, which has the result
abbrev pub result_register : ℕ
result_register = 8

-- of "21 words not 1 to 128, rows not [464] bytes a word, or the entry row or result entry badly formed" what is asked of n words and the entry
-- row, by how many regions there are and their sizes; request 7: "in a well-formed entry row, the six are unset" ..
abbrev pub start_ok : ℕ → List ℕ → ℕ → List ℕ → Bool
start_ok regions sizes n entry =
    leb 1 n && leb n most_words && eqb (length entry) row_bytes && flawless (form_fault regions sizes entry 0) && scratch_unset entry 0

-- .. and with them of the rows and the result entry, which is r8's
unfoldable pub shape_ok : Policy → ℕ → List ℕ → List ℕ → List ℕ → Bool
shape_ok p n rows entry result =
    start_ok p.regions.count p.regions.sizes n entry && eqb (length rows) (row_bytes * n) && eqb (length result) entry_bytes
    && entry_formed_as p.regions.count p.regions.sizes result 0 result_register
