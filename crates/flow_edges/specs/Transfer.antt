-- Delayed control transfer (V8, Bicc and JMPL; document 01, "The word after a Bicc or return is its slot"): which instructions are transfers,
-- whether a slot runs, where a branch goes, which codes and registers transfers read. The check and the machine share these, each under its
-- one name.
use Rattle.std.specs.Prelude.{ℕ, ◌+◌, ◌%◌, Bool, true, false, cond, not, ◌&&◌, ◌||◌, eqb}
use Rattle.v8.specs.Numbers.{never, always}
use Rattle.v8.specs.declared.Bicc.{Bicc}
use Rattle.v8.specs.declared.Instruction.{Instruction}
use Rattle.v8.specs.declared.Instruction.TheVariants.{Plain, Branch, Return}

-- "a transfer (Bicc or return)"
abbrev pub is_transfer : Instruction → Bool
is_transfer (Plain x) = false
is_transfer (Branch b) = true
is_transfer Return = true

-- "codes, which always and never do not read"
abbrev pub reads_codes : ℕ → Bool
reads_codes cnd = not (eqb cnd never || eqb cnd always)

-- "Conditions 0 and 8 have one edge": never is not taken, always is
abbrev pub has_edge : ℕ → Bool → Bool
has_edge cnd true = not (eqb cnd never)
has_edge cnd false = not (eqb cnd always)

-- "It is skipped when the annul bit is set and the condition is always or the branch isn't taken."
unfoldable pub slot_runs : Bicc → Bool → Bool
slot_runs b taken = not (b.annul && (eqb b.cond always || not taken))

-- the word that a taken branch goes to, its distance counted in words from the branch; one below word 0 is a huge index, outside
-- the code
unfoldable pub target_of : ℕ → Bicc → ℕ
target_of at b = (at + b.distance.0) % 4294967296

-- where a branch goes: to its target, or past its slot
abbrev pub landing : ℕ → Bicc → Bool → ℕ
landing at b taken = cond taken (target_of at b) (at + 2)

-- r15, where the leaf return finds the return address
abbrev pub link : ℕ
link = 15
