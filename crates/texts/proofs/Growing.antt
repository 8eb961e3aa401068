-- A text put behind what stands in a buffer already.
use Prim.Native.Nat.{ℕ, ◌+◌, ◌≤◌, ◌<◌}
use native.Mathlib.Omega.{arith}
use mathlib.Core.Path.{◌≡◌, sym, ap, ◌∙◌}
use mathlib.Core.List.{List, ◌++◌}
use borrow.Author.Tests.{le-leb, lt-leb}
use lib.ListN.{length, take, drop, length-append}
use lib.Seq.{take-append_seam, length-take-le}
use Rattle.std.specs.Prelude.{Some, None}
use Rattle.decimal.specs.Write.{put, wrote}
use Rattle.decimal.proofs.Writing.{put-room, put_full, wrote-next, wrote_none}
use Rattle.texts.specs.Text.{grown, fitted}

-- ---- where there is room, and where there is none

module _ (n : ℕ) (old t : List ℕ) where
  pub grown_room : length old + length t ≤ n → grown n old t ≡ old ++ t
  unfolding grown
  grown_room h = rw (le-leb (length old + length t) n h)

  pub grown_full : n < length old + length t → grown n old t ≡ old
  unfolding grown
  grown_full h = rw (lt-leb (length old + length t) n h)

  pub fitted_room : length old + length t ≤ n → fitted n old t ≡ Some tt
  unfolding fitted
  fitted_room h = rw (le-leb (length old + length t) n h)

  pub fitted_full : n < length old + length t → fitted n old t ≡ None
  unfolding fitted
  fitted_full h = rw (lt-leb (length old + length t) n h)

-- ---- what a writer of decimal answered

-- wherever it put the text, it ended within the buffer
pub put_within : (n : ℕ) (b : List ℕ) (at : ℕ) (t : List ℕ) {e : ℕ} → length b ≡ n → Some e ≡ wrote b at t → e ≤ n
put_within n b at t {e = e} all p = let q : (e ≡ at + length t) × (at + length t ≤ length b) = wrote-next b at t e (sym p) in omega arith

-- b has n bytes, old stands before `at`, and t was put there
module _ (n : ℕ) (b : List ℕ) (at : ℕ) (t : List ℕ) {old : List ℕ} (all : length b ≡ n) (within : at ≤ n) (stands : take at b ≡ old) where
  length_old : length old ≡ at
  length_old = sym (ap length stands) ∙ length-take-le at b (omega arith)

  -- it fits, and ends at e
  module _ {e : ℕ} (p : Some e ≡ wrote b at t) where
    place : (e ≡ at + length t) × (at + length t ≤ length b)
    place = wrote-next b at t e (sym p)

    pub put_fitted : Some tt ≡ fitted n old t
    put_fitted = sym (fitted_room n old t (omega (arith, place, length_old)))

    pub put_grown : {c : List ℕ} → c ≡ put b at t → take e c ≡ grown n old t
    put_grown q =
        let k : at + length t ≡ length (take at b ++ t) = omega (arith, length-append (take at b) t, length-take-le at b (omega arith)) in
        ap (take e) (q ∙ put-room b at t place.1)
        ∙ ap (λ (i : ℕ). take i (take at b ++ t ++ drop (at + length t) b)) (place.0 ∙ k)
        ∙ take-append_seam (take at b ++ t) (drop (at + length t) b)
        ∙ ap (λ (s : List ℕ). s ++ t) stands
        ∙ sym (grown_room n old t (omega (arith, place, length_old)))

  -- it doesn't fit
  module _ (p : None ≡ wrote b at t) where
    full : length b < at + length t
    full = wrote_none b at t (sym p)

    pub none_fitted : None ≡ fitted n old t
    none_fitted = sym (fitted_full n old t (omega (arith, full, length_old)))

    pub none_grown : {c : List ℕ} → c ≡ put b at t → take at c ≡ grown n old t
    none_grown q = ap (take at) (q ∙ put_full b at t full) ∙ stands ∙ sym (grown_full n old t (omega (arith, full, length_old)))
