-- The sixteen conditions of Bicc by their four-bit number: V8's formulas over the codes, and the table of document 01 that
-- gives each condition's rule and narrowing class (V8, appendix B, "Branch on Integer Condition Codes"; document 01, "The
-- sixteen conditions").
use Rattle.std.specs.Prelude.{ℕ, ◌+◌, ◌%◌, Bool, true, false, not, ◌||◌, cond, List, [], ◌∷◌, ltb, leb, eqb, get_or}
use Rattle.std.specs.Bool.{xor}
use Rattle.alu.specs.declared.codes.Codes.{Codes}
use Rattle.alu.specs.declared.condition.Rule.{Rule}
use Rattle.alu.specs.declared.condition.Rule.TheVariants.{Never, Equal, LessOrEqual, Less, LowerOrSame, Carry, Negative, Overflow}
use Rattle.alu.specs.declared.condition.Narrowing.{Narrowing}
use Rattle.alu.specs.declared.condition.Narrowing.TheVariants.{Unrelated, EqualTo, NotEqualTo, LessThan, AtLeast, AtMost, GreaterThan}
use Rattle.alu.specs.declared.condition.Condition.{Condition}

-- V8's formulas of the sixteen conditions, in order
abbrev pub formulas : Codes → List Bool
formulas f =
    false
    ∷ f.z
    ∷ (f.z || xor f.n f.v)
    ∷ xor f.n f.v
    ∷ (f.c || f.z)
    ∷ f.c
    ∷ f.n
    ∷ f.v
    ∷ true
    ∷ not f.z
    ∷ not (f.z || xor f.n f.v)
    ∷ not (xor f.n f.v)
    ∷ not (f.c || f.z)
    ∷ not f.c
    ∷ not f.n
    ∷ not f.v
    ∷ []

-- whether the codes meet condition k modulo 16
unfoldable pub cond_holds : ℕ → Codes → Bool
cond_holds k f = get_or (formulas f) (k % 16) false

-- whether the codes meet a rule
abbrev pub rule_holds : Rule → Codes → Bool
rule_holds Never f = false
rule_holds Equal f = f.z
rule_holds LessOrEqual f = f.z || xor f.n f.v
rule_holds Less f = xor f.n f.v
rule_holds LowerOrSame f = f.c || f.z
rule_holds Carry f = f.c
rule_holds Negative f = f.n
rule_holds Overflow f = f.v

-- a row of the table
abbrev pub row : Rule → Bool → Narrowing → Condition
row r t n = record { rule = r; negated = t; narrowing = n }

-- the table: each condition's rule, whether it is negated, and its narrowing class
abbrev pub conditions : List Condition
conditions =
    row Never false Unrelated
    ∷ row Equal false EqualTo
    ∷ row LessOrEqual false AtMost
    ∷ row Less false LessThan
    ∷ row LowerOrSame false Unrelated
    ∷ row Carry false Unrelated
    ∷ row Negative false Unrelated
    ∷ row Overflow false Unrelated
    ∷ row Never true Unrelated
    ∷ row Equal true NotEqualTo
    ∷ row LessOrEqual true GreaterThan
    ∷ row Less true AtLeast
    ∷ row LowerOrSame true Unrelated
    ∷ row Carry true Unrelated
    ∷ row Negative true Unrelated
    ∷ row Overflow true Unrelated
    ∷ []

-- the row of condition k modulo 16
unfoldable pub condition_of : ℕ → Condition
condition_of k = get_or conditions (k % 16) (row Never false Unrelated)

-- whether the codes meet a row of the table
abbrev pub meets : Codes → Condition → Bool
meets f r = cond r.negated (not (rule_holds r.rule f)) (rule_holds r.rule f)

-- the condition that holds exactly where condition k does not
abbrev pub opposite_of : ℕ → ℕ
opposite_of k = (k + 8) % 16

-- what a narrowing class says of the number a compared with b, and `other` where it says nothing
abbrev pub compares : Narrowing → ℕ → ℕ → Bool → Bool
compares Unrelated a b other = other
compares EqualTo a b other = eqb a b
compares NotEqualTo a b other = not (eqb a b)
compares LessThan a b other = ltb a b
compares AtLeast a b other = leb b a
compares AtMost a b other = leb a b
compares GreaterThan a b other = ltb b a
