-- A line is read as a record exactly if the record's text stands there and each of its numbers is in its range. So a record has one text,
-- and a text one record.
use Prim.Native.Nat.{ℕ, ◌+◌, ◌≤◌, ◌<◌}
use native.Mathlib.Decide.{dec_lt}
use native.Mathlib.Omega.{arith}
use mathlib.Core.Path.{◌≡◌, refl, sym, ap, ◌∙◌, subst}
use mathlib.Core.Logic.{◌↔◌}
use mathlib.Core.Bool.{Bool, true, false, cond}
use mathlib.Core.List.{List, [], ◌∷◌, ◌++◌, append_assoc, append-nil}
use borrow.Author.Tests.{le-leb, lt-leb, leb-true, eq-eqb, eqb-true}
use lib.Dec.{leb, eqb}
use lib.IntN.{pos}
use lib.ListN.{length, get_or, drop}
use Rattle.std.proofs.lemmas.Option.{some_pair_parts}
use Rattle.std.specs.Prelude.{Option, Some, None}
use Rattle.decimal.specs.Text.{is_digit, field}
use Rattle.decimal.specs.Read.{naturals, natural_behind_tab, on_number, Stands, Tabbed}
use Rattle.decimal.proofs.Reading.{after, stands_head, stands-within}
use Rattle.decimal.proofs.Tabs.{stands_then, stands-behind, byte_stands, natural_tabbed, tabbed_stands, tabbed_at, Took, number_took}
use Rattle.units.specs.Bounds.{triple}
use Rattle.records.specs.declared.Record.{Record}
use Rattle.records.specs.declared.Record.TheVariants.{Start, Tune, Read, Write, Commit, Abort}
use Rattle.history.specs.declared.Line.{Line}
use Rattle.history.specs.declared.Line.TheVariants.{Taken, Bad, End}
use Rattle.history.specs.Line.{ended, tune_at, read_at, write_at, behind_name, record_at, line_of, line_at}
use Rattle.history.specs.Text.{tab, newline, text_of, Within, InForm, Written}

no_line : {A B : Type 0} {x : B} → None ≡ Some x → A
no_line q = absurd (cc)

taken_bad : {r : Record} {e : ℕ} → Bad ≡ Taken r e → ⊥
taken_bad q = cc

-- ---- a field

module _ (s : List ℕ) (at least most : ℕ) (f : ℕ → ℕ → Option (Record × ℕ)) where
  -- what was read
  take : {C : Type 0} {r : Record} {e : ℕ} → on_number (natural_behind_tab s at least most) f None ≡ Some (r, e)
      → ((v d : ℕ) → Within least most v → Stands (field (pos v)) s at d → f v d ≡ Some (r, e) → C) → C
  take {C} {r} {e} q k =
      let t : Took (natural_behind_tab s at least most) f (Some (r, e)) = number_took (natural_behind_tab s at least most) f None (Some (r, e)) no_line q in
      let n : Tabbed (naturals least most) s at (pos t.v) t.e = (natural_tabbed s at least most t.v t.e).0 t.is in
      k t.v t.e n.reads.within (tabbed_stands s at n) t.goes

  -- what stands there, before a byte that is no digit
  give : {l : Option (Record × ℕ)} {e : ℕ} (v b : ℕ) (rest : List ℕ) → is_digit b ≡ false → Within least most v → Stands (tab v (b ∷ rest)) s at e
      → ((d : ℕ) → Stands (b ∷ rest) s d e → f v d ≡ l) → on_number (natural_behind_tab s at least most) f None ≡ l
  unfolding on_number
  give {l} {e} v b rest n w p k =
      let t : Tabbed (naturals least most) s at (pos v) (at + length (field (pos v))) =
      tabbed_at s at (naturals least most) (pos v) ((b ∷ rest) ++ drop e s) (p.here ∙ append_assoc (field (pos v)) (b ∷ rest) (drop e s)) n w in
      rw ((natural_tabbed s at least most v (at + length (field (pos v)))).1 t) (k (at + length (field (pos v))) (stands-behind s (field (pos v)) (b ∷ rest) p))

-- ---- the newline

module _ (s : List ℕ) (at : ℕ) (q : Record) where
  ended-take : {r : Record} {e : ℕ} → ended s at q ≡ Some (r, e) → (q ≡ r) × Stands newline s at e
  unfolding ended
  ended-take {r} {e} h = go (eqb (get_or s at 0) 10) refl h
    where
      go : (t : Bool) → eqb (get_or s at 0) 10 ≡ t → cond {A = Option (Record × ℕ)} t (Some (q, at + 1)) None ≡ Some (r, e) → (q ≡ r) × Stands newline s at e
      go true t h =
          let p : (q ≡ r) × (at + 1 ≡ e) = some_pair_parts q r (at + 1) e h in
          (p.0, subst (λ (k : ℕ). Stands newline s at k) p.1 (byte_stands s at 10 (omega arith) (eqb-true (get_or s at 0) 10 t)))
      go false t h = no_line h

  ended_give : {e : ℕ} → Stands newline s at e → ended s at q ≡ Some (q, e)
  unfolding ended
  ended_give {e} p = rw (eq-eqb (get_or s at 0) 10 (stands_head s newline (omega arith) p)) (ap (λ (k : ℕ). Some (q, k)) (sym p.ends))

-- ---- the letter

no_digits : (is_digit 9 ≡ false) × (is_digit 10 ≡ false)
unfolding is_digit
no_digits = (refl, refl)

by_letter : {C : Type 0} (letter b : ℕ) {x y z : Option (Record × ℕ)} → cond (eqb letter b) x y ≡ z → (letter ≡ b → x ≡ z → C) → (y ≡ z → C) → C
by_letter {C} letter b {x} {y} {z} q yes-letter no-letter = go (eqb letter b) refl q
  where
    go : (t : Bool) → eqb letter b ≡ t → cond t x y ≡ z → C
    go true h q = yes-letter (eqb-true letter b h) q
    go false h q = no-letter q

module _ (s : List ℕ) (at : ℕ) {r : Record} {e : ℕ} where
  -- the letter stands at the place, and what was read behind it makes the record's text
  module _ (b : ℕ) (some : 1 ≤ b) (letter : get_or s at 0 ≡ b) where
    made : (q : Record) (t : List ℕ) → text_of q ≡ b ∷ t → Stands t s (at + 1) e → InForm q → q ≡ r → Written s at r e
    made q t text p form same =
        subst (λ (x : Record). Written s at x e) same
        (record { stands = subst (λ (l : List ℕ). Stands l s at e) (sym text) (stands_then s (byte_stands s at b some letter) p); form = form })

  behind-take : (t d : ℕ) → Within 1 4294967295 t → Stands (field (pos t)) s (at + 1) d → behind_name s (get_or s at 0) t d ≡ Some (r, e) → Written s at r e
  unfolding behind_name tune_at read_at write_at text_of InForm
  behind-take t d w p q =
      by_letter (get_or s at 0) 115 q (λ h q.
      let z : (Start t ≡ r) × Stands newline s d e = ended-take s d (Start t) q in
      made 115 (omega arith) h (Start t) (tab t newline) refl (stands_then s p z.1) w z.0) (λ q.
      by_letter (get_or s at 0) 107 q (λ h q.
      take s d 1 65535 _ q (λ k1 a w1 p1 q. take s a 0 65535 _ q (λ k2 b w2 p2 q. take s b 0 65535 _ q (λ k3 c w3 p3 q.
      let z : (Tune t (triple k1 k2 k3) ≡ r) × Stands newline s c e = ended-take s c (Tune t (triple k1 k2 k3)) q in
      made 107 (omega arith) h (Tune t (triple k1 k2 k3)) (tab t (tab k1 (tab k2 (tab k3 newline)))) refl
      (stands_then s p (stands_then s p1 (stands_then s p2 (stands_then s p3 z.1)))) (w, (w1, (w2, w3))) z.0)))) (λ q.
      by_letter (get_or s at 0) 114 q (λ h q.
      take s d 0 63 _ q (λ x a w1 p1 q. take s a 0 4294967295 _ q (λ y b w2 p2 q.
      let z : (Read t x y ≡ r) × Stands newline s b e = ended-take s b (Read t x y) q in
      made 114 (omega arith) h (Read t x y) (tab t (tab x (tab y newline))) refl (stands_then s p (stands_then s p1 (stands_then s p2 z.1))) (w, (w1, w2)) z.0))) (λ q.
      by_letter (get_or s at 0) 119 q (λ h q.
      take s d 0 63 _ q (λ x a w1 p1 q.
      let z : (Write t x ≡ r) × Stands newline s a e = ended-take s a (Write t x) q in
      made 119 (omega arith) h (Write t x) (tab t (tab x newline)) refl (stands_then s p (stands_then s p1 z.1)) (w, w1) z.0)) (λ q.
      by_letter (get_or s at 0) 99 q (λ h q.
      let z : (Commit t ≡ r) × Stands newline s d e = ended-take s d (Commit t) q in
      made 99 (omega arith) h (Commit t) (tab t newline) refl (stands_then s p z.1) w z.0) (λ q.
      by_letter (get_or s at 0) 97 q (λ h q.
      let z : (Abort t ≡ r) × Stands newline s d e = ended-take s d (Abort t) q in
      made 97 (omega arith) h (Abort t) (tab t newline) refl (stands_then s p z.1) w z.0) (λ q. no_line q))))))

  record_reads : record_at s at ≡ Some (r, e) → Written s at r e
  unfolding record_at
  record_reads q = take s (at + 1) 1 4294967295 (λ t d. behind_name s (get_or s at 0) t d) q (λ t d w p q. behind-take t d w p q)

  -- what is answered stands there
  pub line_reads : line_at s at ≡ Taken r e → Written s at r e
  unfolding line_at
  line_reads q = go (leb (length s) at) (record_at s at) refl q
    where
      go : (t : Bool) (l : Option (Record × ℕ)) → record_at s at ≡ l → cond t End (line_of l) ≡ Taken r e → Written s at r e
      go true l p q = absurd (cc)
      go false None p q = absurd (cc)
      go false (Some (x, d)) p q = let y : x ≡ r = cc in let z : d ≡ e = cc in record_reads (rw (← y, ← z) p)

module _ (s : List ℕ) (at : ℕ) where
  -- a letter and T, before a byte that is no digit
  opens : {r : Record} {e : ℕ} (letter t b : ℕ) (rest : List ℕ) → is_digit b ≡ false → Within 1 4294967295 t → Stands (letter ∷ tab t (b ∷ rest)) s at e
      → ((d : ℕ) → Stands (b ∷ rest) s d e → behind_name s letter t d ≡ Some (r, e)) → line_at s at ≡ Taken r e
  unfolding line_at record_at
  opens {r} {e} letter t b rest n w p k =
      let first : get_or s at 0 ≡ letter = stands_head s (letter ∷ tab t (b ∷ rest)) (omega arith) p in
      rw (lt-leb (length s) at (stands-within s (letter ∷ tab t (b ∷ rest)) (omega arith) p), first)
      (ap line_of (give s (at + 1) 1 4294967295 (λ t d. behind_name s letter t d) t b rest n w (stands-behind s (letter ∷ []) (tab t (b ∷ rest)) p) k))

  -- what stands there is answered
  pub line_read : (r : Record) (e : ℕ) → Written s at r e → line_at s at ≡ Taken r e
  unfolding behind_name tune_at read_at write_at text_of InForm
  line_read (Start t) e w = opens 115 t 10 [] no_digits.1 w.form w.stands (λ d p. ended_give s d (Start t) p)
  line_read (Tune t b) e w =
      opens 107 t 9 _ no_digits.0 w.form.0 w.stands (λ d p.
      give s d 1 65535 _ b.k1 9 _ no_digits.0 w.form.1.0 p (λ d p.
      give s d 0 65535 _ b.k2 9 _ no_digits.0 w.form.1.1.0 p (λ d p.
      give s d 0 65535 _ b.k3 10 [] no_digits.1 w.form.1.1.1 p (λ d p. ended_give s d (Tune t b) p))))
  line_read (Read t x y) e w =
      opens 114 t 9 _ no_digits.0 w.form.0 w.stands (λ d p.
      give s d 0 63 _ x 9 _ no_digits.0 w.form.1.0 p (λ d p.
      give s d 0 4294967295 _ y 10 [] no_digits.1 w.form.1.1 p (λ d p. ended_give s d (Read t x y) p)))
  line_read (Write t x) e w =
      opens 119 t 9 _ no_digits.0 w.form.0 w.stands (λ d p.
      give s d 0 63 _ x 10 [] no_digits.1 w.form.1 p (λ d p. ended_give s d (Write t x) p))
  line_read (Commit t) e w = opens 99 t 10 [] no_digits.1 w.form w.stands (λ d p. ended_give s d (Commit t) p)
  line_read (Abort t) e w = opens 97 t 10 [] no_digits.1 w.form w.stands (λ d p. ended_give s d (Abort t) p)

  -- document 01's forms: a record is answered exactly if its text stands there, its numbers in their ranges
  pub line_exactly : (r : Record) (e : ℕ) → (line_at s at ≡ Taken r e) ↔ Written s at r e
  line_exactly r e = (line_reads s at, line_read r e)

-- ---- the end, and what is not of the form

module _ (s : List ℕ) (at : ℕ) where
  -- the end is answered exactly if nothing is left
  pub end_exactly : (line_at s at ≡ End) ↔ (length s ≤ at)
  unfolding line_at
  end_exactly = (λ q. go (leb (length s) at) (record_at s at) refl q, λ h. rw (le-leb (length s) at h))
    where
      go : (t : Bool) (l : Option (Record × ℕ)) → leb (length s) at ≡ t → cond t End (line_of l) ≡ End → length s ≤ at
      go true l h q = leb-true (length s) at h
      go false None h q = absurd (cc)
      go false (Some (r, e)) h q = absurd (cc)

  -- nothing of the form is answered exactly if something is left, and no record's text stands there
  pub bad_exactly : (line_at s at ≡ Bad) ↔ ((at < length s) × ((r : Record) (e : ℕ) → Written s at r e → ⊥))
  bad_exactly = (λ q. (left (dec_lt at (length s)) q, λ r e w. absurd (taken_bad (sym q ∙ line_read s at r e w))), λ h. go (line_at s at) refl h)
    where
      left : Dec (at < length s) → line_at s at ≡ Bad → at < length s
      left (yes l) q = l
      left (no l) q =
          let e : End ≡ Bad = sym (end_exactly.1 (omega arith)) ∙ q in
          absurd (cc)

      go : (l : Line) → line_at s at ≡ l → (at < length s) × ((r : Record) (e : ℕ) → Written s at r e → ⊥) → line_at s at ≡ Bad
      go (Taken r e) q h = absurd (h.1 r e (line_reads s at q))
      go Bad q h = q
      go End q h = absurd (omega (arith, end_exactly.0 q, h.0))

-- reading what was written gives the record back, whatever follows it
pub line_back : (s : List ℕ) (at : ℕ) (r : Record) (rest : List ℕ) → drop at s ≡ text_of r ++ rest → InForm r → line_at s at ≡ Taken r (at + length (text_of r))
line_back s at r rest q form =
    line_read s at r (at + length (text_of r))
    (record { stands = record { ends = refl; here = q ∙ ap (λ (l : List ℕ). text_of r ++ l) (sym (after s (text_of r) rest at q)) }; form = form })

-- a text has one record (a record has one text by definition)
pub text_one : (q r : Record) → InForm q → InForm r → text_of q ≡ text_of r → q ≡ r
text_one q r f g e =
    let a : line_at (text_of q) 0 ≡ Taken q (0 + length (text_of q)) = line_back (text_of q) 0 q [] (sym (append-nil (text_of q))) f in
    let b : line_at (text_of q) 0 ≡ Taken r (0 + length (text_of r)) = line_back (text_of q) 0 r [] (e ∙ sym (append-nil (text_of r))) g in
    let x : q ≡ r = cc in
    x
