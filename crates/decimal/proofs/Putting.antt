-- Texts put one behind the other, for the crates that write lines.
use Prim.Native.Nat.{ℕ, ◌+◌, ◌≤◌, ◌<◌}
use native.Mathlib.Nat.{add-zero, zero-add}
use native.Mathlib.Omega.{arith}
use mathlib.Core.Path.{◌≡◌, refl, sym, ap, ◌∙◌, subst}
use mathlib.Core.List.{List, [], ◌∷◌, ◌++◌, append_assoc, append-nil}
use borrow.Author.Tests.{le-leb, lt-leb}
use lib.ListN.{length, take, drop, length-append}
use lib.Seq.{take-append_seam, length-take-le}
use Rattle.std.specs.Prelude.{Option, Some, None}
use Rattle.decimal.specs.Text.{joined}
use Rattle.decimal.specs.Write.{put, wrote, handed_over, Puts}
use Rattle.decimal.proofs.Writing.{put-room, put_sets, put-length, put-put, wrote-next, wrote_none}

-- one text, where there is room for it
pub puts_one : {b c t : List ℕ} {at : ℕ} → at + length t ≤ length b → c ≡ put b at t → Puts b c at t (at + length t)
puts_one h e = record { place = refl; fits = h; text = e }

-- no text
pub puts_none : (b : List ℕ) (at : ℕ) → at ≤ length b → Puts b b at [] at
puts_none b at h = record { place = sym (add-zero at); fits = h; text = put_sets b at [] (omega arith) }

-- what a writer answered
module _ (b : List ℕ) (at : ℕ) (t : List ℕ) {w : Option ℕ} (p : w ≡ wrote b at t) where
  pub puts_next : {c : List ℕ} {e : ℕ} → c ≡ put b at t → w ≡ Some e → Puts b c at t e
  puts_next {e = e} f q =
      let n : (e ≡ at + length t) × (at + length t ≤ length b) = wrote-next b at t e (sym p ∙ q) in
      record { place = n.0; fits = omega arith; text = f }

  pub puts_full : at + length t ≤ length b → w ≡ None → ⊥
  puts_full h q = let n : length b < at + length t = wrote_none b at t (sym p ∙ q) in omega arith

pub puts_length : {b c t : List ℕ} {at r : ℕ} → Puts b c at t r → length c ≡ length b
puts_length {b = b} {t = t} {at = at} p = ap length p.text ∙ put-length b at t

-- one text, then another behind it
pub puts_then : {b c d t u : List ℕ} {at m r : ℕ} → Puts b c at t m → Puts c d m u r → Puts b d at (t ++ u) r
puts_then {b = b} {t = t} {u = u} {at = at} {m = m} {r = r} p q =
    let place : r ≡ at + length (t ++ u) = omega (arith, length-append t u, p.place, q.place) in
    let fits : r ≤ length b = omega (arith, puts_length p, q.fits) in
    record {
      place = place;
      fits = fits;
      text = q.text ∙ ap (λ (l : List ℕ). put l m u) p.text ∙ ap (λ (k : ℕ). put (put b at t) k u) p.place ∙ put-put b at t u (omega arith);
    }

-- ---- the texts of things

pub joined_snoc : {A : Type 0} (f : A → List ℕ) (xs : List A) (x : A) → joined f (xs ++ (x ∷ [])) ≡ joined f xs ++ f x
unfolding joined
joined_snoc f [] x = append-nil (f x)
joined_snoc f (y ∷ xs) x = ap (λ (l : List ℕ). f y ++ l) (joined_snoc f xs x) ∙ sym (append_assoc (f y) (joined f xs) (f x))

pub joined_length : {A : Type 0} (f : A → List ℕ) (xs : List A) (x : A) → length (joined f (xs ++ (x ∷ []))) ≡ length (joined f xs) + length (f x)
joined_length f xs x = ap length (joined_snoc f xs x) ∙ length-append (joined f xs) (f x)

-- one more
pub puts_more : {A : Type 0} (f : A → List ℕ) (xs : List A) (x : A) {ys : List A} {b c d : List ℕ} {at m r : ℕ} → ys ≡ xs ++ (x ∷ []) → Puts b c at (joined f xs) m → Puts c d m (f x) r → Puts b d at (joined f ys) r
puts_more f xs x {b = b} {d = d} {at = at} {r = r} e p q =
    subst (λ (l : List ℕ). Puts b d at l r) (sym (ap (joined f) e ∙ joined_snoc f xs x)) (puts_then p q)

-- ---- the front of a buffer

-- the text is what stands before its end
pub puts_front : {b c t : List ℕ} {r : ℕ} → Puts b c 0 t r → take r c ≡ t
puts_front {b = b} {t = t} {r = r} p =
    let e : r ≡ length t = p.place ∙ zero-add (length t) in
    ap (take r) (p.text ∙ put-room b 0 t (omega (arith, p.place, p.fits)))
    ∙ ap (λ (k : ℕ). take k (t ++ drop (0 + length t) b)) e
    ∙ take-append_seam t (drop (0 + length t) b)

pub puts_taken : {b c t : List ℕ} {r : ℕ} → Puts b c 0 t r → r ≡ length (take r c)
puts_taken {c = c} {r = r} p = sym (length-take-le r c (omega (arith, puts_length p, p.fits)))

-- ---- a text handed over: the answers, from that to what was put at the front

module _ {A : Type 0} (bytes : ℕ → A) (noRoom : A) (b t : List ℕ) {c : List ℕ} {w : Option ℕ} (p : (w ≡ wrote b 0 t) × (c ≡ put b 0 t)) where
  pub handed_whole : {n : ℕ} → w ≡ Some n → (bytes n ≡ handed_over bytes noRoom b t) × (c ≡ put b 0 t)
  handed_whole {n = n} q =
      let h : (n ≡ 0 + length t) × (0 + length t ≤ length b) = wrote-next b 0 t n (sym p.0 ∙ q) in
      (rw (le-leb (length t) (length b) (omega (arith, h.1))) (ap bytes (h.0 ∙ zero-add (length t))), p.1)

  pub handed_full : w ≡ None → (noRoom ≡ handed_over bytes noRoom b t) × (c ≡ put b 0 t)
  handed_full q =
      let h : length b < length t = omega (arith, wrote_none b 0 t (sym p.0 ∙ q)) in
      (rw (lt-leb (length t) (length b) h), p.1)
