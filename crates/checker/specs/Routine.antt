-- A routine as the check sees it: the policy, the words as they are read, their rows, the entry row and the result entry.
use Rattle.std.specs.Prelude.{ℕ, List, length}
use Rattle.v8.specs.declared.Edition.{Edition}
use Rattle.v8.specs.declared.Reading.{Reading}
use Rattle.policy.specs.declared.Policy.{Policy}
use Rattle.flow_code.specs.Readings.{readings_of}
use Rattle.rows.specs.declared.Entry.{Entry}
use Rattle.rows.specs.Row.{entry_of}

-- what is handed in, the words as they are read
pub record Routine : Type 0 where
  pub policy : Policy
  pub readings : List Reading
  pub rows : List ℕ
  pub entry : List ℕ
  pub result : List ℕ

-- .. by the terminal that is told
abbrev pub routine_of : Edition → Policy → List ℕ → List ℕ → List ℕ → List ℕ → Routine
routine_of e p words rows entry result = record { policy = p; readings = readings_of e words; rows = rows; entry = entry; result = result }

-- how many words there are
abbrev pub count : Routine → ℕ
count t = length t.readings

-- the result entry
abbrev pub result_entry : List ℕ → Entry
result_entry result = entry_of result 0
