-- Writing text: digits from the back, a text put whole or not at all, and what it leaves as it was.
use Prim.Native.Nat.{ℕ, ◌+◌, ◌-◌, ◌≤◌, ◌<◌}
use native.Mathlib.Decide.{dec_le}
use native.Mathlib.Omega.{arith}
use mathlib.Core.Path.{◌≡◌, refl, sym, ap, ◌∙◌}
use mathlib.Core.Bool.{false}
use mathlib.Core.List.{List, ◌∷◌, ◌++◌, append_assoc}
use mathlib.Core.Logic.{◌⊎◌, inl, inr}
use borrow.Author.Tests.{le-leb, lt-leb, leb-false}
use lib.IntN.{ℤ, pos, negsuc, nat_abs}
use lib.Signed.{le_z}
use lib.ListN.{length, get_or, take, drop, length-append, length-drop}
use borrow.Rule.Slice.PartMut.{put_mid}
use lib.Seq.{sets, sets-eq, take_at, drop_at, length-take-le, drop-drop, get_or-take, get_or-drop}
use Rattle.std.specs.Prelude.{Option, Some, None}
use Rattle.decimal.specs.Text.{decimal, plain}
use Rattle.decimal.specs.Read.{Stands}
use Rattle.decimal.specs.Write.{put, wrote, ends}

-- ---- a text, whole or not at all

module _ (b : List ℕ) (at : ℕ) (t : List ℕ) where
  pub put-room : at + length t ≤ length b → put b at t ≡ take at b ++ t ++ drop (at + length t) b
  unfolding put
  put-room h = rw (le-leb (at + length t) (length b) h)

  pub put_full : length b < at + length t → put b at t ≡ b
  unfolding put
  put_full h = rw (lt-leb (at + length t) (length b) h)

  pub wrote-room : at + length t ≤ length b → wrote b at t ≡ Some (at + length t)
  unfolding wrote
  wrote-room h = rw (le-leb (at + length t) (length b) h)

  pub wrote-full : length b < at + length t → wrote b at t ≡ None
  unfolding wrote
  wrote-full h = rw (lt-leb (at + length t) (length b) h)

  pub put_sets : at + length t ≤ length b → sets b at t ≡ put b at t
  put_sets h = sets-eq t b at h ∙ sym (put-room h)

-- ---- what a text leaves as it was, and where it stands

module _ (b : List ℕ) (at : ℕ) (t : List ℕ) where
  put_by : (P : List ℕ → Type 0) → P b → (at + length t ≤ length b → P (take at b ++ t ++ drop (at + length t) b)) → P (put b at t)
  put_by P out in' = go (dec_le (at + length t) (length b))
    where
      go : Dec (at + length t ≤ length b) → P (put b at t)
      go (yes h) = rw (put-room b at t h) (in' h)
      go (no h) = rw (put_full b at t (omega arith)) out

  -- as far as the end of the text
  front : at + length t ≤ length b → length (take at b ++ t) ≡ at + length t
  front h = length-append (take at b) t ∙ ap (λ (k : ℕ). k + length t) (length-take-le at b (omega arith))

  pub put-length : length (put b at t) ≡ length b
  put-length =
      put_by (λ l. length l ≡ length b) refl
      (λ h. length-append (take at b ++ t) (drop (at + length t) b) ∙ omega (arith, front h, length-drop (at + length t) b))

  pub put-before : take at (put b at t) ≡ take at b
  put-before =
      put_by (λ l. take at l ≡ take at b) refl
      (λ h. ap (take at) (append_assoc (take at b) t (drop (at + length t) b)) ∙ take_at (take at b) (t ++ drop (at + length t) b) at (length-take-le at b (omega arith)))

  pub put-after : drop (at + length t) (put b at t) ≡ drop (at + length t) b
  put-after =
      put_by (λ l. drop (at + length t) l ≡ drop (at + length t) b) refl
      (λ h. drop_at (take at b ++ t) (drop (at + length t) b) (at + length t) (front h))

  -- byte by byte
  pub put_other : (i : ℕ) → (i < at) ⊎ (at + length t ≤ i) → get_or (put b at t) i 0 ≡ get_or b i 0
  put_other i (inl h) = sym (get_or-take at (put b at t) i 0 h) ∙ ap (λ (l : List ℕ). get_or l i 0) put-before ∙ get_or-take at b i 0 h
  put_other i (inr h) =
      let e : at + length t + (i - (at + length t)) ≡ i = omega arith in
      ap (λ (k : ℕ). get_or (put b at t) k 0) (sym e)
      ∙ sym (get_or-drop (at + length t) (put b at t) (i - (at + length t)) 0)
      ∙ ap (λ (l : List ℕ). get_or l (i - (at + length t)) 0) put-after
      ∙ get_or-drop (at + length t) b (i - (at + length t)) 0
      ∙ ap (λ (k : ℕ). get_or b k 0) e

  pub put-stands : at + length t ≤ length b → Stands t (put b at t) at (at + length t)
  put-stands h =
      record {
        ends = refl;
        here =
            ap (drop at) (put-room b at t h ∙ append_assoc (take at b) t (drop (at + length t) b))
            ∙ drop_at (take at b) (t ++ drop (at + length t) b) at (length-take-le at b (omega arith))
            ∙ ap (λ (l : List ℕ). t ++ l) (sym put-after);
      }

-- what a caller learns from the answer
module _ (b : List ℕ) (at : ℕ) (t : List ℕ) where
  pub wrote-next : (e : ℕ) → wrote b at t ≡ Some e → (e ≡ at + length t) × (at + length t ≤ length b)
  wrote-next e q = go (dec_le (at + length t) (length b))
    where
      go : Dec (at + length t ≤ length b) → (e ≡ at + length t) × (at + length t ≤ length b)
      go (yes h) = let p : Some (at + length t) ≡ Some e = sym (wrote-room b at t h) ∙ q in let r : e ≡ at + length t = cc in (r, h)
      go (no h) =
          let p : None ≡ Some e = sym (wrote-full b at t (omega arith)) ∙ q in
          let z : ◌≡◌ {A = ℕ} 0 1 = cc in
          absurd (omega arith)

  pub wrote_none : wrote b at t ≡ None → length b < at + length t
  wrote_none q = go (dec_le (at + length t) (length b))
    where
      go : Dec (at + length t ≤ length b) → length b < at + length t
      go (yes h) =
          let p : Some (at + length t) ≡ None = sym (wrote-room b at t h) ∙ q in
          let z : ◌≡◌ {A = ℕ} 0 1 = cc in
          absurd (omega arith)
      go (no h) = omega arith

-- what a writer of the text t owes, w bytes long, from where it ends
module _ (b : List ℕ) (at w : ℕ) (t : List ℕ) (q : w ≡ length t) where
  pub no_end : None ≡ ends b at w → (None ≡ wrote b at t) × (b ≡ put b at t)
  unfolding wrote
  no_end h = let p : None ≡ wrote b at t = rw (← q) h in (p, sym (put_full b at t (wrote_none b at t (sym p))))

  pub end-is : {e : ℕ} → Some e ≡ ends b at w → (e ≡ at + length t) × (at + length t ≤ length b)
  unfolding wrote
  end-is {e} h = wrote-next b at t e (rw (← q) (sym h))

  pub slot-length : {e : ℕ} → Some e ≡ ends b at w → length (take (e - at) (drop at b)) ≡ length t
  slot-length {e} h =
      let p : (e ≡ at + length t) × (at + length t ≤ length b) = end-is h in
      length-take-le (e - at) (drop at b) (omega (arith, length-drop at b)) ∙ omega arith

  pub ended : {e : ℕ} {u : List ℕ} → Some e ≡ ends b at w → u ≡ t → (Some e ≡ wrote b at t) × (put_mid at (e - at) b u ≡ put b at t)
  ended {e} {u} h r =
      let p : (e ≡ at + length t) × (at + length t ≤ length b) = end-is h in
      let k : e - at ≡ length t = omega arith in
      (ap Some p.0 ∙ sym (wrote-room b at t p.1), rw (k, r) (ap (λ (l : List ℕ). take at b ++ (t ++ l)) (drop-drop (length t) at b) ∙ sym (put-room b at t p.1 ∙ append_assoc (take at b) t (drop (at + length t) b))))

-- two texts, one behind the other, are one text
pub put-put : (b : List ℕ) (at : ℕ) (t u : List ℕ) → at + length (t ++ u) ≤ length b → put (put b at t) (at + length t) u ≡ put b at (t ++ u)
put-put b at t u h =
    let l : length (t ++ u) ≡ length t + length u = length-append t u in
    let room : at + length t ≤ length b = omega arith in
    let room₂ : at + length t + length u ≤ length (put b at t) = omega (arith, put-length b at t) in
    let e : at + length t + length u ≡ at + length (t ++ u) = omega arith in
    put-room (put b at t) (at + length t) u room₂
    ∙ ap (λ (p : List ℕ). p ++ u ++ drop (at + length t + length u) (put b at t)) (ap (take (at + length t)) (put-room b at t room) ∙ take_at (take at b ++ t) (drop (at + length t) b) (at + length t) (front b at t room))
    ∙ ap (λ (r : List ℕ). (take at b ++ t) ++ u ++ r) (sym (drop-drop (length u) (at + length t) (put b at t)) ∙ ap (drop (length u)) (put-after b at t) ∙ drop-drop (length u) (at + length t) b ∙ ap (λ (k : ℕ). drop k b) e)
    ∙ ap (λ (p : List ℕ). p ++ drop (at + length (t ++ u)) b) (append_assoc (take at b) t u)
    ∙ sym (put-room b at (t ++ u) h)

-- what a writer of two texts owes, from what the writers of each answered
module _ (b : List ℕ) (at m : ℕ) (t u : List ℕ) (h : at + length (t ++ u) ≤ length b) (p : Some m ≡ wrote b at t) {c : List ℕ} (q : c ≡ put b at t) where
  pub then-wrote : {r : Option ℕ} → r ≡ wrote c m u → r ≡ wrote b at (t ++ u)
  then-wrote {r} e =
      let l : length (t ++ u) ≡ length t + length u = length-append t u in
      let k : m ≡ at + length t = (wrote-next b at t m (sym p)).0 in
      let room : m + length u ≤ length c = omega (arith, ap length q, put-length b at t) in
      e ∙ wrote-room c m u room ∙ ap Some (omega arith) ∙ sym (wrote-room b at (t ++ u) h)

  pub then_put : {d : List ℕ} → d ≡ put c m u → d ≡ put b at (t ++ u)
  then_put {d} e =
      let k : m ≡ at + length t = (wrote-next b at t m (sym p)).0 in
      e ∙ rw (q, k) (put-put b at t u h)

-- ---- a value below zero, by its digits

pub plain-down : (z : ℤ) {d : ℕ} → le_z (pos 0) z ≡ false → d ≡ nat_abs z → plain z ≡ 45 ∷ decimal d
plain-down (pos n) h e = absurd (omega (arith, leb-false 0 n h))
plain-down (negsuc n) h e = ap (λ (k : ℕ). 45 ∷ decimal k) (sym e)
