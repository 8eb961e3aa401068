-- The reader answers a value exactly if its plain form stands there, in the range, with no digit behind it; for every range at once.
use Prim.Native.Nat.{ℕ, zero, suc, ◌+◌, ◌-◌, ◌*◌, ◌≤◌, ◌<◌}
use native.Mathlib.Nat.{add-zero}
use native.Mathlib.Numerals.{add-one}
use native.Mathlib.Omega.{arith}
use mathlib.Core.Path.{◌≡◌, refl, sym, ap, ◌∙◌, subst}
use mathlib.Core.Logic.{◌↔◌, ◌⊎◌, inl, inr}
use mathlib.Core.Bool.{Bool, true, false, cond, ◌&&◌}
use mathlib.Core.List.{List, [], ◌∷◌, ◌++◌, append_assoc, append-nil}
use borrow.Author.Tests.{le-leb, eq-eqb, ne_eqb, leb-true, eqb-false, eqb-true}
use lib.Dec.{leb, eqb}
use lib.IntN.{ℤ, pos, negsuc}
use lib.ListN.{length, get_or, drop, length-append, length-drop, get_or-append}
use lib.Seq.{drop-cons, drop-drop, drop-append_seam, get_or-drop}
use Rattle.std.proofs.lemmas.Option.{some_pair_parts}
use Rattle.std.specs.Prelude.{Option, Some, None}
use Rattle.lists.specs.Lists.{none, also}
use Rattle.decimal.specs.Text.{is_digit, decimal, plain}
use Rattle.decimal.specs.Read.{more, digits, unsigned, negative, field_at, number, InRange, Stands, Reads}
use Rattle.decimal.specs.declared.read.Range.{Range}
use Rattle.decimal.proofs.Digits.{decimal_small, decimal_snoc, decimal-some, decimal_head, decimal-first, decimal-digits, worth, worth_le, worth-decimal, digit-above, digit-below, Digits}
use Rattle.decimal.proofs.Steps.{byte_within}

-- no digit stands at the head
abbrev pub Stops : List ℕ → Type 0
Stops s = is_digit (get_or s 0 0) ≡ false

stops_nil : Stops []
unfolding is_digit
stops_nil = refl

-- ---- digits that follow

-- t was read behind v, and w is the whole
record More (most v e : ℕ) (s : List ℕ) (w f : ℕ) : Type 0 where
  t : List ℕ
  rest : List ℕ
  split : s ≡ t ++ rest
  place : f ≡ e + length t
  text : decimal v ++ t ≡ decimal w
  small : w ≤ most
  stops : Stops rest

pub absurd_number : {A B : Type 0} {x : B} → None ≡ Some x → A
absurd_number q = absurd (cc)

more-reads : (most v e : ℕ) (s : List ℕ) (w f : ℕ) → v ≤ most → more most v e s ≡ Some (w, f) → More most v e s w f
unfolding more
more-reads most v e [] w f l q =
    let p : v ≡ w = (some_pair_parts v w e f q).0 in
    let r : e ≡ f = (some_pair_parts v w e f q).1 in
    record { t = []; rest = []; split = refl; place = omega arith; text = rw p (append-nil (decimal w)); small = omega arith; stops = stops_nil }
more-reads most v e (b ∷ s) w f l q = go (is_digit b) refl (eqb v 0) refl (leb (v * 10 + (b - 48)) most) refl (λ k. more-reads most (v * 10 + (b - 48)) (e + 1) s w f k) q
  where
    go : (i : Bool) → is_digit b ≡ i → (z : Bool) → eqb v 0 ≡ z → (k : Bool) → leb (v * 10 + (b - 48)) most ≡ k
        → (v * 10 + (b - 48) ≤ most → more most (v * 10 + (b - 48)) (e + 1) s ≡ Some (w, f) → More most (v * 10 + (b - 48)) (e + 1) s w f)
        → cond i (cond z None (cond k (more most (v * 10 + (b - 48)) (e + 1) s) None)) (Some (v, e)) ≡ Some (w, f)
        → More most v e (b ∷ s) w f
    go false i z _ k _ r q =
        let p : v ≡ w = (some_pair_parts v w e f q).0 in
        let r : e ≡ f = (some_pair_parts v w e f q).1 in
        record { t = []; rest = b ∷ s; split = refl; place = omega arith; text = rw p (append-nil (decimal w)); small = omega arith; stops = i }
    go true i true z k _ r q = absurd_number q
    go true i false z false k r q = absurd_number q
    go true i false z true k r q =
        let m : More most (v * 10 + (b - 48)) (e + 1) s w f = r (leb-true (v * 10 + (b - 48)) most k) q in
        let nz : v ≡ 0 → ⊥ = eqb-false v 0 z in
        let lo : 48 ≤ b = digit-above b i in
        let hi : b ≤ 57 = digit-below b i in
        let same : 48 + (b - 48) ≡ b = omega arith in
        record {
          t = b ∷ m.t;
          rest = m.rest;
          split = ap (λ (l : List ℕ). b ∷ l) m.split;
          place = omega (arith, m.place);
          text = sym (append_assoc (decimal v) (b ∷ []) m.t) ∙ ap (λ (l : List ℕ). l ++ m.t) (sym (rw same at (decimal_snoc v (b - 48) (omega arith) (omega arith)))) ∙ m.text;
          small = m.small;
          stops = m.stops;
        }

more_stops : (most v e : ℕ) (s : List ℕ) → Stops s → more most v e s ≡ Some (v, e)
unfolding more
more_stops most v e [] n = refl
more_stops most v e (b ∷ s) n = rw n

more-read : (most : ℕ) (rest : List ℕ) → Stops rest → (t : List ℕ) → Digits t → (v e : ℕ) → 1 ≤ v → worth v t ≤ most → more most v e (t ++ rest) ≡ Some (worth v t, e + length t)
unfolding more
more-read most rest n [] none v e h l = more_stops most v e rest n ∙ ap (λ (k : ℕ). Some (v, k)) (sym (add-zero e))
more-read most rest n (b ∷ t) (also d p) v e h l =
    rw (d, ne_eqb v 0 (omega arith), le-leb (v * 10 + (b - 48)) most (omega (arith, worth_le (v * 10 + (b - 48)) t)))
    (more-read most rest n t p (v * 10 + (b - 48)) (e + 1) (omega arith) l ∙ ap (λ (k : ℕ). Some (worth v (b ∷ t), k)) (omega arith))

-- ---- a run of digits is the decimal text of its value

record Run (most e : ℕ) (s : List ℕ) (w f : ℕ) : Type 0 where
  rest : List ℕ
  split : s ≡ decimal w ++ rest
  place : f ≡ e + length (decimal w)
  small : w ≤ most
  stops : Stops rest

run_of : (most e b : ℕ) (s : List ℕ) (w f : ℕ) → is_digit b ≡ true → More most (b - 48) (e + 1) s w f → Run most e (b ∷ s) w f
run_of most e b s w f i m =
    let lo : 48 ≤ b = digit-above b i in
    let hi : b ≤ 57 = digit-below b i in
    let same : 48 + (b - 48) ≡ b = omega arith in
    let one : decimal (b - 48) ≡ b ∷ [] = decimal_small (b - 48) (omega arith) ∙ ap (λ (k : ℕ). k ∷ []) same in
    let text : b ∷ m.t ≡ decimal w = sym (ap (λ (l : List ℕ). l ++ m.t) one) ∙ m.text in
    record {
      rest = m.rest;
      split = ap (λ (l : List ℕ). b ∷ l) m.split ∙ ap (λ (l : List ℕ). l ++ m.rest) text;
      place = m.place ∙ omega (arith, ap length text);
      small = m.small;
      stops = m.stops;
    }

digits-reads : (most e : ℕ) (s : List ℕ) (w f : ℕ) → digits most e s ≡ Some (w, f) → Run most e s w f
unfolding digits
digits-reads most e [] w f q = absurd_number q
digits-reads most e (b ∷ s) w f q = go (is_digit b) refl (leb (b - 48) most) refl q
  where
    go : (i : Bool) → is_digit b ≡ i → (k : Bool) → leb (b - 48) most ≡ k
        → cond (i && k) (more most (b - 48) (e + 1) s) None ≡ Some (w, f) → Run most e (b ∷ s) w f
    go false i k _ q = absurd_number q
    go true i false k q = absurd_number q
    go true i true k q = run_of most e b s w f i (more-reads most (b - 48) (e + 1) s w f (leb-true (b - 48) most k) q)

module _ (most e : ℕ) (rest : List ℕ) (n : Stops rest) where
  digits-zero : digits most e ((48 ∷ []) ++ rest) ≡ Some (0, e + 1)
  unfolding digits is_digit
  digits-zero = rw (le-leb 0 most (omega arith)) (more_stops most 0 (e + 1) rest n)

  digits-cons : (w b : ℕ) (t : List ℕ) → decimal w ≡ b ∷ t → w ≤ most → 48 < b → digits most e ((b ∷ t) ++ rest) ≡ Some (w, e + length (b ∷ t))
  unfolding digits
  digits-cons w b t q l h = go (subst Digits q (decimal-digits w))
    where
      value : worth (b - 48) t ≡ w
      value = ap (λ (k : ℕ). worth k t) (omega arith) ∙ sym (ap (worth 0) q) ∙ worth-decimal w

      go : Digits (b ∷ t) → digits most e ((b ∷ t) ++ rest) ≡ Some (w, e + length (b ∷ t))
      go (also d p) =
          rw (d, le-leb (b - 48) most (omega (arith, worth_le (b - 48) t, value)))
          (more-read most rest n t p (b - 48) (e + 1) (omega arith) (omega (arith, value)) ∙ ap (λ (k : ℕ). Some (k, e + 1 + length t)) value ∙ ap (λ (k : ℕ). Some (w, k)) (omega arith))

  digits-read : (w : ℕ) → w ≤ most → digits most e (decimal w ++ rest) ≡ Some (w, e + length (decimal w))
  digits-read zero l =
      let q : decimal 0 ≡ 48 ∷ [] = decimal_small 0 (omega arith) in
      rw q digits-zero
  digits-read (suc w) l = go (decimal (suc w)) refl
    where
      go : (t : List ℕ) → decimal (suc w) ≡ t → digits most e (decimal (suc w) ++ rest) ≡ Some (suc w, e + length (decimal (suc w)))
      go [] q = absurd (omega (arith, rw q at (decimal-some (suc w))))
      go (b ∷ t) q = rw q (digits-cons (suc w) b t q l (rw q at (decimal-first (suc w) (omega arith))))

-- ---- places

-- what is left behind a text that stands at i
pub after : (s t rest : List ℕ) (i : ℕ) → drop i s ≡ t ++ rest → drop (i + length t) s ≡ rest
after s t rest i q = sym (drop-drop (length t) i s) ∙ ap (drop (length t)) q ∙ drop-append_seam t rest

-- the byte at i is the first of what is left there
pub head_of : (s : List ℕ) (i : ℕ) → get_or (drop i s) 0 0 ≡ get_or s i 0
head_of s i = get_or-drop i s 0 0 ∙ ap (λ (k : ℕ). get_or s k 0) (add-zero i)

-- and of the text that stands there
pub stands_head : (s t : List ℕ) {at e : ℕ} → 1 ≤ length t → Stands t s at e → get_or s at 0 ≡ get_or t 0 0
stands_head s t {at = at} {e = e} h r = sym (head_of s at) ∙ ap (λ (l : List ℕ). get_or l 0 0) r.here ∙ get_or-append t (drop e s) 0 0 h

pub stands-within : (s t : List ℕ) {at e : ℕ} → 1 ≤ length t → Stands t s at e → at < length s
stands-within s t {at = at} {e = e} h r = omega (arith, length-drop at s, ap length r.here, length-append t (drop e s))

-- a text that stands before no digit
module _ (range : Range) (s : List ℕ) (at : ℕ) (z : ℤ) where
  pub reads_at : (rest : List ℕ) → drop at s ≡ plain z ++ rest → Stops rest → InRange range z → Reads range s at z (at + length (plain z))
  reads_at rest q n r =
      let left : drop (at + length (plain z)) s ≡ rest = after s (plain z) rest at q in
      record {
        stands = record { ends = refl; here = q ∙ ap (λ (l : List ℕ). plain z ++ l) (sym left) };
        within = r;
        whole = ap is_digit (sym (head_of s (at + length (plain z))) ∙ ap (λ (l : List ℕ). get_or l 0 0) left) ∙ n;
      }

-- ---- the field: exactly if

module _ (range : Range) (s : List ℕ) (at : ℕ) where
  -- digits with no minus
  unsigned_reads : (n : Option (ℕ × ℕ)) → digits range.most at (drop at s) ≡ n → (z : ℤ) (e : ℕ) → unsigned range.least n ≡ number z e → Reads range s at z e
  unfolding unsigned
  unsigned_reads None d z e q = absurd_number q
  unsigned_reads (Some (v, f)) d z e q = go (leb range.least v) refl z q
    where
      go : (k : Bool) → leb range.least v ≡ k → (z : ℤ) → cond k (Some (pos v, f)) None ≡ number z e → Reads range s at z e
      go false k z q = absurd_number q
      go true k z q =
          let p : (pos v ≡ z) × (f ≡ e) = some_pair_parts (pos v) z f e q in
          let run : Run range.most at (drop at s) v f = digits-reads range.most at (drop at s) v f d in
          let r : Reads range s at (pos v) (at + length (decimal v)) = reads_at range s at (pos v) run.rest run.split run.stops (leb-true range.least v k, run.small) in
          subst (λ (y : ℤ). Reads range s at y e) p.0 (subst (λ (m : ℕ). Reads range s at (pos v) m) (sym run.place ∙ p.1) r)

  -- digits behind a minus
  negative-reads : get_or s at 0 ≡ 45 → (n : Option (ℕ × ℕ)) → digits range.below (at + 1) (drop (at + 1) s) ≡ n → (z : ℤ) (e : ℕ) → negative n ≡ number z e → Reads range s at z e
  unfolding negative
  negative-reads m None d z e q = absurd_number q
  negative-reads m (Some (zero, f)) d z e q = absurd_number q
  negative-reads m (Some (suc v, f)) d z e q =
      let p : (negsuc v ≡ z) × (f ≡ e) = some_pair_parts (negsuc v) z f e q in
      let run : Run range.below (at + 1) (drop (at + 1) s) (suc v) f = digits-reads range.below (at + 1) (drop (at + 1) s) (suc v) f d in
      let text : drop at s ≡ 45 ∷ (decimal (suc v) ++ run.rest) =
      drop-cons s at 0 (byte_within s at (omega arith))
      ∙ ap (λ (b : ℕ). b ∷ drop (suc at) s) m
      ∙ ap (λ (l : List ℕ). 45 ∷ l) (ap (λ (k : ℕ). drop k s) (sym (add-one at)) ∙ run.split) in
      let r : Reads range s at (negsuc v) (at + length (plain (negsuc v))) = reads_at range s at (negsuc v) run.rest text run.stops run.small in
      let place : at + length (plain (negsuc v)) ≡ e = omega (arith, run.place, p.1) in
      subst (λ (y : ℤ). Reads range s at y e) p.0 (subst (λ (m : ℕ). Reads range s at (negsuc v) m) place r)

  -- what is answered stands there
  pub field-reads : (z : ℤ) (e : ℕ) → field_at s at range ≡ number z e → Reads range s at z e
  unfolding field_at
  field-reads z e q = go (eqb (get_or s at 0) 45) refl q
    where
      go : (m : Bool) → eqb (get_or s at 0) 45 ≡ m
          → cond m (negative (digits range.below (at + 1) (drop (at + 1) s))) (unsigned range.least (digits range.most at (drop at s))) ≡ number z e
          → Reads range s at z e
      go true m q = negative-reads (eqb-true (get_or s at 0) 45 m) (digits range.below (at + 1) (drop (at + 1) s)) refl z e q
      go false m q = unsigned_reads (digits range.most at (drop at s)) refl z e q

  stops_at : (e : ℕ) → is_digit (get_or s e 0) ≡ false → Stops (drop e s)
  stops_at e n = ap is_digit (head_of s e) ∙ n

  -- what stands there is answered
  pub field-read : (z : ℤ) (e : ℕ) → Reads range s at z e → field_at s at range ≡ number z e
  unfolding field_at unsigned negative
  field-read (pos v) e r =
      let first : get_or s at 0 ≡ get_or (decimal v) 0 0 = stands_head s (decimal v) (decimal-some v) r.stands in
      let plain : eqb (get_or s at 0) 45 ≡ false = ne_eqb (get_or s at 0) 45 (omega (arith, decimal_head v, first)) in
      let run : digits range.most at (decimal v ++ drop e s) ≡ Some (v, at + length (decimal v)) = digits-read range.most at (drop e s) (stops_at e r.whole) v r.within.1 in
      rw (plain, r.stands.here, run, le-leb range.least v r.within.0, r.stands.ends)
  field-read (negsuc v) e r =
      let first : get_or s at 0 ≡ 45 = stands_head s (45 ∷ decimal (suc v)) (omega arith) r.stands in
      let minus : eqb (get_or s at 0) 45 ≡ true = eq-eqb (get_or s at 0) 45 first in
      let left : drop (at + 1) s ≡ decimal (suc v) ++ drop e s = after s (45 ∷ []) (decimal (suc v) ++ drop e s) at r.stands.here in
      let run : digits range.below (at + 1) (decimal (suc v) ++ drop e s) ≡ Some (suc v, at + 1 + length (decimal (suc v))) = digits-read range.below (at + 1) (drop e s) (stops_at e r.whole) (suc v) r.within in
      rw (minus, left, run) (ap (λ (k : ℕ). Some (negsuc v, k)) (omega (arith, r.stands.ends)))

  -- document 01's form, for every range: a value is answered exactly if its plain text stands there, in the range, whole
  pub field_exactly : (z : ℤ) (e : ℕ) → (field_at s at range ≡ number z e) ↔ Reads range s at z e
  field_exactly z e = (field-reads z e, field-read z e)

  -- nothing is answered exactly if no value of the range stands there
  pub bad_exactly : (field_at s at range ≡ None) ↔ ((z : ℤ) (e : ℕ) → Reads range s at z e → ⊥)
  bad_exactly = (λ q z e r. absurd_number (sym q ∙ field-read z e r), λ n. go (field_at s at range) refl n)
    where
      go : (f : Option (ℤ × ℕ)) → field_at s at range ≡ f → ((z : ℤ) (e : ℕ) → Reads range s at z e → ⊥) → field_at s at range ≡ None
      go (Some (z, e)) q n = absurd (n z e (field-reads z e q))
      go None q n = q

  -- reading what was written gives the value back
  pub field_back : (z : ℤ) (rest : List ℕ) → drop at s ≡ plain z ++ rest → Stops rest → InRange range z → field_at s at range ≡ number z (at + length (plain z))
  field_back z rest q n r = field-read z (at + length (plain z)) (reads_at range s at z rest q n r)

number_inj : (y z : ℤ) (d e : ℕ) → number y d ≡ number z e → (y ≡ z) × (d ≡ e)
number_inj y z d e q = some_pair_parts y z d e q

-- a range that has the values of both
both : Range → Range → Range
both p q = record { below = p.below + q.below; least = 0; most = p.most + q.most }

widened : (p q : Range) (z : ℤ) → InRange p z ⊎ InRange q z → InRange (both p q) z
unfolding both
widened p q (pos v) (inl h) = (omega arith, omega arith)
widened p q (pos v) (inr h) = (omega arith, omega arith)
widened p q (negsuc v) (inl h) = omega arith
widened p q (negsuc v) (inr h) = omega arith

-- at most one value stands whole at a place, and it ends at one place, whatever the ranges it is read in
pub reads_one : (p q : Range) (s : List ℕ) (at : ℕ) (y z : ℤ) (d e : ℕ) → Reads p s at y d → Reads q s at z e → (y ≡ z) × (d ≡ e)
reads_one p q s at y z d e a b =
    let m : Reads (both p q) s at y d = record { stands = a.stands; within = widened p q y (inl a.within); whole = a.whole } in
    let n : Reads (both p q) s at z e = record { stands = b.stands; within = widened p q z (inr b.within); whole = b.whole } in
    number_inj y z d e (sym (field-read (both p q) s at y d m) ∙ field-read (both p q) s at z e n)

-- ---- a value stands within the text

plain-some : (z : ℤ) → 1 ≤ length (plain z)
plain-some (pos v) = decimal-some v
plain-some (negsuc v) = omega arith

pub reads-within : (range : Range) (s : List ℕ) (at : ℕ) (z : ℤ) (e : ℕ) → Reads range s at z e → (at < e) × (e ≤ length s)
reads-within range s at z e r =
    let some : 1 ≤ length (plain z) = plain-some z in
    let ends : e ≡ at + length (plain z) = r.stands.ends in
    let left : length s - at ≡ length (plain z) + (length s - e) =
    sym (length-drop at s) ∙ ap length r.stands.here ∙ length-append (plain z) (drop e s) ∙ ap (λ (k : ℕ). length (plain z) + k) (length-drop e s) in
    (omega arith, omega arith)
