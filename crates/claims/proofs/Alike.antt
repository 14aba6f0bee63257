-- A routine that is accepted for the older terminal has words that it reads, which the newer one reads alike: so both read the same routine.
use Prim.Native.Nat.{ℕ, ◌<◌}
use mathlib.Core.Path.{◌≡◌, refl, sym, ap, subst, ◌∙◌}
use mathlib.Core.Bool.{true}
use mathlib.Core.List.{List}
use native.Mathlib.Omega.{arith}
use lib.ListN.{length, get_or}
use lib.Seq.{ext_get_or}
use Rattle.v8.specs.Numbers.{not_read}
use Rattle.v8.specs.Read.{reading_of}
use Rattle.v8.specs.Laws.{ReadingSound}
use Rattle.v8.specs.declared.Edition.TheVariants.{V8, V9}
use Rattle.v8.specs.declared.Reading.{Reading}
use Rattle.v8.specs.declared.Reading.TheVariants.{Read, Unread}
use Rattle.v8.proofs.Choice.{false_true}
use Rattle.v8.proofs.Alike.{reads_alike}
use Rattle.v8.proofs.Sound.{reads_sound}
use Rattle.flow_code.specs.Readings.{readings_of, reading_at}
use Rattle.flow_code.proofs.Fetched.{read_count, fetched}
use Rattle.passes.specs.Answer.{passes}
use Rattle.passes.specs.Passes.{if_read, read_pass}
use Rattle.checker.specs.Passes.{answer_of, check_of}
use Rattle.checker.proofs.Accepted.{accepts}
use Rattle.claims.specs.Claims.{AcceptedToo}

-- a word that passes 2 and 24 on the older terminal is read alike on the newer
alike : (word w : ℕ) (x : Reading) → reading_of V8 word ≡ x → ReadingSound x → passes (if_read w x) ≡ true → reading_of V9 word ≡ reading_of V8 word
alike word w (Read x) q s e = reads_alike word x q ∙ sym q
alike word w (Unread n) q s e = false_true (sym s ∙ e)

module _ (words : List ℕ) (reads : (w : ℕ) → w < length (readings_of V8 words) → passes (read_pass (readings_of V8 words) w) ≡ true) where
  here : (w : ℕ) → w < length words → reading_at (readings_of V9 words) w ≡ reading_at (readings_of V8 words) w
  unfolding read_pass
  here w l =
      let e = subst (λ (x : Reading). passes (if_read w x) ≡ true) (fetched V8 words w l) (reads w (omega (arith, l, read_count V8 words))) in
      fetched V9 words w l ∙ alike (get_or words w 0) w _ refl (reads_sound V8 (get_or words w 0)) e ∙ sym (fetched V8 words w l)

  same : readings_of V9 words ≡ readings_of V8 words
  same =
      ext_get_or (Unread not_read) (readings_of V9 words) (readings_of V8 words) (read_count V9 words ∙ sym (read_count V8 words))
      (λ w l. here w (omega (arith, l, read_count V9 words)))

pub accepted-too : AcceptedToo
unfolding check_of
accepted-too p words rows entry result e =
    ap (λ (readings : List Reading). answer_of (record { policy = p; readings = readings; rows = rows; entry = entry; result = result }))
    (same words (accepts V8 p words rows entry result e).reads)
    ∙ e
