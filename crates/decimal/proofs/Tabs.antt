-- A number behind a tab is read exactly if its field stands there, in its range, with no digit behind it; for every range at once.
use Prim.Native.Nat.{ℕ, suc, ◌+◌, ◌≤◌}
use native.Mathlib.Numerals.{add-one}
use native.Mathlib.Omega.{arith}
use mathlib.Core.Path.{◌≡◌, refl, sym, ap, ◌∙◌, subst}
use mathlib.Core.Logic.{◌↔◌}
use mathlib.Core.Bool.{Bool, true, false, cond}
use mathlib.Core.List.{List, [], ◌∷◌, ◌++◌, append_assoc}
use borrow.Author.Tests.{eq-eqb, eqb-true}
use lib.Dec.{eqb}
use lib.IntN.{ℤ, pos}
use lib.ListN.{length, get_or, drop, length-append}
use lib.Seq.{drop-cons}
use Rattle.std.specs.Prelude.{Option, Some, None}
use Rattle.decimal.specs.Text.{plain, field}
use Rattle.decimal.specs.Read.{naturals, values, behind_tab, natural_behind_tab, signed_behind_tab, on_number, InRange, Stands, Reads, Tabbed}
use Rattle.decimal.specs.declared.read.Range.{Range}
use Rattle.decimal.proofs.Steps.{byte_within}
use Rattle.decimal.proofs.Reading.{Stops, absurd_number, after, head_of, reads_at}
use Rattle.decimal.proofs.Values.{natural_exactly, signed_exactly}

-- ---- texts that stand one behind the other

module _ (s : List ℕ) where
  pub stands_then : {t u : List ℕ} {a b c : ℕ} → Stands t s a b → Stands u s b c → Stands (t ++ u) s a c
  stands_then {t} {u} {a} {b} {c} p q =
      record {
        ends = omega (arith, p.ends, q.ends, length-append t u);
        here = p.here ∙ ap (λ (l : List ℕ). t ++ l) q.here ∙ sym (append_assoc t u (drop c s));
      }

  pub stands-behind : (t u : List ℕ) {a c : ℕ} → Stands (t ++ u) s a c → Stands u s (a + length t) c
  stands-behind t u {a} {c} p =
      record {
        ends = omega (arith, p.ends, length-append t u);
        here = after s t (u ++ drop c s) a (p.here ∙ append_assoc t u (drop c s));
      }

  pub byte_stands : (a b : ℕ) → 1 ≤ b → get_or s a 0 ≡ b → Stands (b ∷ []) s a (a + 1)
  byte_stands a b h e =
      record {
        ends = refl;
        here = drop-cons s a 0 (byte_within s a (omega arith)) ∙ ap (λ (x : ℕ). x ∷ drop (suc a) s) e ∙ ap (λ (k : ℕ). b ∷ drop k s) (sym (add-one a));
      }

-- ---- the number behind a tab

module _ (s : List ℕ) (at : ℕ) where
  -- a reading that answers r exactly if z stands at its place answers it behind a tab exactly if z stands behind that tab
  tabbed_exactly : {A : Type 0} {there no-tab r : A} {range : Range} {z : ℤ} {e : ℕ} → (no-tab ≡ r → ⊥) → ((there ≡ r) ↔ Reads range s (at + 1) z e)
      → (behind_tab s at there no-tab ≡ r) ↔ Tabbed range s at z e
  tabbed_exactly {A} {there} {no-tab} {r} {range} {z} {e} n x =
      (λ q. go (eqb (get_or s at 0) 9) refl q, λ t. rw (eq-eqb (get_or s at 0) 9 t.tab) (x.1 t.reads))
    where
      go : (t : Bool) → eqb (get_or s at 0) 9 ≡ t → cond t there no-tab ≡ r → Tabbed range s at z e
      go true h q = record { tab = eqb-true (get_or s at 0) 9 h; reads = x.0 q }
      go false h q = absurd (n q)

  pub natural_tabbed : (least most v e : ℕ) → (natural_behind_tab s at least most ≡ Some (v, e)) ↔ Tabbed (naturals least most) s at (pos v) e
  unfolding natural_behind_tab
  natural_tabbed least most v e = tabbed_exactly absurd_number (natural_exactly s (at + 1) least most v e)

  pub signed_tabbed : (z : ℤ) (e : ℕ) → (signed_behind_tab s at ≡ Some (z, e)) ↔ Tabbed values s at z e
  unfolding signed_behind_tab
  signed_tabbed z e = tabbed_exactly absurd_number (signed_exactly s (at + 1) z e)

  -- a number that was read is at most the most
  pub natural_small : (least most : ℕ) {n : Option (ℕ × ℕ)} {v e : ℕ} → n ≡ natural_behind_tab s at least most → n ≡ Some (v, e) → v ≤ most
  natural_small least most {v = v} {e = e} p q = ((natural_tabbed least most v e).0 (sym p ∙ q)).reads.within.1

  module _ {range : Range} {z : ℤ} where
    -- what was read is the field
    pub tabbed_stands : {e : ℕ} → Tabbed range s at z e → Stands (field z) s at e
    tabbed_stands t = stands_then s (byte_stands s at 9 (omega arith) t.tab) t.reads.stands

  -- and the field is read
  pub tabbed_at : (range : Range) (z : ℤ) (rest : List ℕ) → drop at s ≡ field z ++ rest → Stops rest → InRange range z → Tabbed range s at z (at + length (field z))
  tabbed_at range z rest q n r =
      record {
        tab = sym (head_of s at) ∙ ap (λ (l : List ℕ). get_or l 0 0) q;
        reads = subst (Reads range s (at + 1) z) (omega arith) (reads_at range s (at + 1) z rest (after s (9 ∷ []) (plain z ++ rest) at q) n r);
      }

-- ---- what a reading took

-- n is a number and the place behind it, and what follows them gives r
pub record Took {W A : Type 0} (n : Option (W × ℕ)) (f : W → ℕ → A) (r : A) : Type 0 where
  pub v : W
  pub e : ℕ
  pub is : n ≡ Some (v, e)
  pub goes : f v e ≡ r

pub number_took : {A : Type 0} (n : Option (ℕ × ℕ)) (f : ℕ → ℕ → A) (z r : A) → (z ≡ r → ⊥) → on_number n f z ≡ r → Took n f r
unfolding on_number
number_took (Some (v, e)) f z r no-bad q = record { v = v; e = e; is = refl; goes = q }
number_took None f z r no-bad q = absurd (no-bad q)
