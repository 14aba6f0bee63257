-- Parts of a row, and rows, written one after the other: what stands before the place that is written next.
use Prim.Native.Nat.{ℕ, ◌+◌, ◌-◌, ◌*◌, ◌≤◌}
use mathlib.Core.Path.{◌≡◌, refl, sym, ap, ◌∙◌}
use mathlib.Core.List.{List, ◌++◌, append_assoc}
use native.Mathlib.Numerals.{add-one}
use native.Mathlib.Omega.{arith}
use borrow.Rule.Slice.PartMut.{put_mid, post_of}
use lib.ListN.{length, take, drop, replicate, length-append, length-drop, length-replicate}
use Rattle.std.proofs.Common.{length-take-le}
use Rattle.std.proofs.lemmas.Slice.{take-put_mid}
use Rattle.rows.specs.Geometry.{row_bytes}
use Rattle.bundle_layout.specs.Layout.{narrow_row_bytes}
use Rattle.bundle_rows.specs.Wide.{part, wide_row, wide_rows}

-- a part written at a place leaves the length, where it has the length of what it takes the place of
length-put_mid : (t x : List ℕ) (at k : ℕ) → (k ≡ length x) × (at + k ≤ length t) → length (put_mid at k t x) ≡ length t
length-put_mid t x at k l =
    let e = length-take-le at t (omega arith) in
    omega (arith, e, length-append (take at t) (x ++ post_of at k t), length-append x (post_of at k t), length-drop k (drop at t), length-drop at t)

-- a part written at a place reaches to its end
reaches : (t x : List ℕ) (at k : ℕ) → at ≤ length t → at + length x ≤ length (put_mid at k t x)
reaches t x at k l =
    let e = length-take-le at t l in
    omega (arith, e, length-append (take at t) (x ++ post_of at k t), length-append x (post_of at k t))

length-part : (b : List ℕ) (at n : ℕ) → at + n ≤ length b → length (part b at n) ≡ n
length-part b at n l = length-take-le n (drop at b) (omega (arith, length-drop at b))

-- the part from one place up to another
between-part : (b : List ℕ) (at end n : ℕ) → end ≡ at + n → take (end - at) (drop at b) ≡ part b at n
between-part b at end n e = let k : end - at ≡ n = omega arith in ap (λ (m : ℕ). take m (drop at b)) k

-- three parts, written one after the other
three_written :
    (t x y z : List ℕ) (a b c d i j k : ℕ) → a ≤ length t → b ≡ a + length x → c ≡ b + length y → d ≡ c + length z
    → take d (put_mid c k (put_mid b j (put_mid a i t x) y) z) ≡ take a t ++ (x ++ y ++ z)
three_written t x y z a b c d i j k l e f g =
    let u = put_mid a i t x in
    let v = put_mid b j u y in
    let m : b ≤ length u = omega (arith, reaches t x a i l) in
    let n : c ≤ length v = omega (arith, reaches u y b j m) in
    take-put_mid c k v z d g n
    ∙ ap (λ (r : List ℕ). r ++ z) (take-put_mid b j u y c f m ∙ ap (λ (r : List ℕ). r ++ y) (take-put_mid a i t x b e l))
    ∙ ap (λ (r : List ℕ). r ++ z) (append_assoc (take a t) x y)
    ∙ append_assoc (take a t) (x ++ y) z

-- a row: its registers' entries, those of the scratch words and its note
pub row_written :
    (b t x y z : List ℕ) (at place : ℕ) → at + narrow_row_bytes ≤ length b → place + row_bytes ≤ length t
    → x ≡ take (at + 384 - at) (drop at b)
    → y ≡ replicate (length (take (place + 456 - (place + 384)) (drop (place + 384) (put_mid place (place + 384 - place) t x)))) 0
    → z ≡ take (at + 392 - (at + 384)) (drop (at + 384) b)
    → take (place + row_bytes)
    (put_mid (place + 456) (place + 464 - (place + 456)) (put_mid (place + 384) (place + 456 - (place + 384)) (put_mid place (place + 384 - place) t x) y) z)
    ≡ take place t ++ wide_row b at
row_written b t x y z at place l m e f g =
    let u = put_mid place (place + 384 - place) t x in
    let first : x ≡ part b at 384 = e ∙ between-part b at (at + 384) 384 refl in
    let last : z ≡ part b (at + 384) 8 = g ∙ between-part b (at + 384) (at + 392) 8 (omega arith) in
    let n : length x ≡ 384 = ap length first ∙ length-part b at 384 (omega arith) in
    let k : length z ≡ 8 = ap length last ∙ length-part b (at + 384) 8 (omega arith) in
    let h : length u ≡ length t = length-put_mid t x place (place + 384 - place) (omega arith, omega arith) in
    let zeros : y ≡ replicate 72 0 =
    f ∙ ap (λ (j : ℕ). replicate j 0) (ap length (between-part u (place + 384) (place + 456) 72 (omega arith)) ∙ length-part u (place + 384) 72 (omega arith)) in
    let j : length y ≡ 72 = ap length zeros ∙ length-replicate {A = ℕ} 72 0 in
    three_written t x y z place (place + 384) (place + 456) (place + row_bytes) _ _ _ (omega arith) (omega arith) (omega arith) (omega arith)
    ∙ cc

-- one row more
pub rows_more :
    (b from to : List ℕ) (at i : ℕ) → take (row_bytes * i) from ≡ wide_rows b at i
    → take (row_bytes * i + row_bytes) to ≡ take (row_bytes * i) from ++ wide_row b (at + narrow_row_bytes * i)
    → take (row_bytes * (i + 1)) to ≡ wide_rows b at (i + 1)
rows_more b from to at i e f =
    let k : row_bytes * (i + 1) ≡ row_bytes * i + row_bytes = omega arith in
    ap (λ (n : ℕ). take n to) k
    ∙ f
    ∙ ap (λ (r : List ℕ). r ++ wide_row b (at + narrow_row_bytes * i)) e
    ∙ ap (wide_rows b at) (sym (add-one i))
