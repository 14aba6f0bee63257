-- The worked cases of the caller's registers (document 02, request 6) in the flow pass alone, which is all that the request changes of the check.
use Rattle.std.specs.Prelude.{ℕ, ◌≡◌, List, map, length}
use Rattle.v8.specs.declared.Edition.{Edition}
use Rattle.flow_code.specs.Readings.{readings_of}
use Rattle.passes.specs.declared.Answer.{Answer}
use Rattle.passes.specs.Answer.{refuse, pass_of}
use Rattle.passes.specs.Passes.{flow_pass}

-- words, and the answer that the pass must have for them
pub record Row : Type 0 where
  pub words : List ℕ
  pub answer : Answer

-- .. told by its number, word and register; 0 0 0 accepts
abbrev pub answered : List ℕ → ℕ → ℕ → ℕ → Row
answered words number w r = record { words = words; answer = refuse number w r }

-- what the definitions give, on a terminal of the edition
abbrev pub outcome : Edition → Row → Answer
outcome e row = pass_of (flow_pass (readings_of e row.words)) (length row.words)

-- the rows of a list hold: each has the answer that it expects
abbrev pub Holds : Edition → List Row → Type 0
Holds e rows = map (outcome e) rows ≡ map (λ (r : Row). r.answer) rows
