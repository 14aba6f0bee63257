-- The lowest place of a row that has a flaw, or none (document 01, "Check": "the lowest register of the earliest broken row is the one named,
-- 32 for the note"; "lowest register or 32"; request 7: "the register answered for scratch words is 33 to 38, the lowest number named first").
use Rattle.std.specs.Prelude.{ℕ, Bool, true, false, cond, ltb, Option, None, Some}
use Rattle.v8.specs.Search.{first}
use Rattle.rows.specs.Geometry.{places}

-- the lowest named place from i on of which a test says that it has a flaw
unfoldable pub flaw_from : (ℕ → Bool) → ℕ → Option ℕ
flaw_from broken i = cond (ltb (first broken i places) places) (Some (first broken i places)) None

-- no place has a flaw
abbrev pub flawless : Option ℕ → Bool
flawless None = true
flawless (Some place) = false
