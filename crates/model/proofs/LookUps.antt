-- "A note records a version .. by key and ordinal; the master looks it up and believes nothing else": a look-up finds the version that has the
-- key and the ordinal, and is absent exactly if there is none.
use Prim.Native.Nat.{ℕ}
use native.Mathlib.Omega.{arith}
use mathlib.Core.Path.{◌≡◌, refl, sym, ◌∙◌, ap}
use mathlib.Core.Logic.{◌↔◌}
use mathlib.Core.Bool.{Bool, true, false, cond, ◌&&◌, false≢true}
use mathlib.Core.List.{List, [], ◌∷◌}
use lib.Dec.{eqb}
use borrow.Author.Tests.{eqb-true, eqb-false, ne_eqb}
use Rattle.lists.specs.Lists.{Every, none, also}
use Rattle.lists.specs.Members.{here, below}
use Rattle.lists.proofs.Members.{every_in}
use Rattle.units.specs.Version.{start_version}
use Rattle.units.specs.declared.Version.{Version}
use Rattle.std.specs.Prelude.{Option, Some, None}
use Rattle.model.specs.Log.{Entry, version_of, logged, look_up}
use Rattle.model.specs.Step.{is_absent}
use Rattle.model.specs.Reached.{Chain, Numbered, first, later}
use Rattle.model.specs.Checks.{NoOrdinal}
use Rattle.model.proofs.History.{same-ordinal, ordinal_range}

module _ (k o : ℕ) where
  -- a version of the log that is not the one asked for
  abbrev Other : Entry → Type 0
  Other e = ¬ ((e.key ≡ k) × (e.ordinal ≡ o))

  none-logged : {log : List Entry} → Every Other log → logged log k o ≡ None
  unfolding logged
  none-logged none = refl
  none-logged (also {x = e} {xs = es} h hs) = go (eqb e.key k) refl (eqb e.ordinal o) refl (none-logged hs)
    where
      go : (a : Bool) → eqb e.key k ≡ a → (b : Bool) → eqb e.ordinal o ≡ b → logged es k o ≡ None → cond (a && b) (Some (version_of e)) (logged es k o) ≡ None
      go true p true q r = absurd (h (eqb-true _ _ p, eqb-true _ _ q))
      go true p false q r = r
      go false p b q r = r

  logged_none : (log : List Entry) → logged log k o ≡ None → Every Other log
  unfolding logged
  logged_none [] h = none
  logged_none (e ∷ es) h = go (eqb e.key k) refl (eqb e.ordinal o) refl (logged_none es) h
    where
      go : (a : Bool) → eqb e.key k ≡ a → (b : Bool) → eqb e.ordinal o ≡ b → (logged es k o ≡ None → Every Other es)
          → cond (a && b) (Some (version_of e)) (logged es k o) ≡ None → Every Other (e ∷ es)
      go true p true q r h = let z : ◌≡◌ {A = ℕ} 0 1 = cc in absurd (omega arith)
      go true p false q r h = also (λ x. eqb-false _ _ q x.1) (r h)
      go false p b q r h = also (λ x. eqb-false _ _ p x.0) (r h)

  further : {e : Entry} {es : List Entry} {v : Version} → Numbered es k o v → Numbered (e ∷ es) k o v
  further (first z) = first z
  further (later f i p q) = later f (below i) p q

  logged_found : (log : List Entry) (v : Version) → logged log k o ≡ Some v → Numbered log k o v
  unfolding logged
  logged_found [] v h = let z : ◌≡◌ {A = ℕ} 0 1 = cc in absurd (omega arith)
  logged_found (e ∷ es) v h = go (eqb e.key k) refl (eqb e.ordinal o) refl (logged_found es v) h
    where
      go : (a : Bool) → eqb e.key k ≡ a → (b : Bool) → eqb e.ordinal o ≡ b → (logged es k o ≡ Some v → Numbered es k o v)
          → cond (a && b) (Some (version_of e)) (logged es k o) ≡ Some v → Numbered (e ∷ es) k o v
      go true p true q r h = let z : version_of e ≡ v = cc in rw (← z) (later e here (eqb-true _ _ p) (eqb-true _ _ q))
      go true p false q r h = further (r h)
      go false p b q r h = further (r h)

  -- "7: note: the key has no such ordinal". Every log is taken.
  pub absent_exactly : (log : List Entry) → (look_up log k o ≡ None) ↔ NoOrdinal log k o
  unfolding look_up
  absent_exactly log = (go (eqb o 0) refl, λ h. rw (ne_eqb o 0 h.0) (none-logged h.1))
    where
      go : (b : Bool) → eqb o 0 ≡ b → cond b (Some start_version) (logged log k o) ≡ None → NoOrdinal log k o
      go true e h = let z : ◌≡◌ {A = ℕ} 0 1 = cc in absurd (omega arith)
      go false e h = (eqb-false _ _ e, logged_none log h)

  pub absent_tests : (log : List Entry) → (is_absent (look_up log k o) ≡ true) ↔ NoOrdinal log k o
  absent_tests log = (λ e. (absent_exactly log).0 (told (look_up log k o) e), λ h. ap is_absent ((absent_exactly log).1 h))
    where
      told : (f : Option Version) → is_absent f ≡ true → f ≡ None
      told (Some v) e = absurd (false≢true e)
      told None e = refl

  module _ {opening clock : ℕ} {log : List Entry} (c : Chain opening clock log) where
    -- of one key and one ordinal there is one version
    pub numbered_one : {v w : Version} → Numbered log k o v → Numbered log k o w → v ≡ w
    numbered_one (first z) (first y) = refl
    numbered_one (first z) (later e i p q) = absurd (let r = ordinal_range c i in omega arith)
    numbered_one (later e i p q) (first z) = absurd (let r = ordinal_range c i in omega arith)
    numbered_one (later e i p q) (later f j r s) = ap version_of (same-ordinal c i j (p ∙ sym r) (q ∙ sym s))

    found_numbered : (v : Version) → look_up log k o ≡ Some v → Numbered log k o v
    unfolding look_up
    found_numbered v = go (eqb o 0) refl
      where
        go : (b : Bool) → eqb o 0 ≡ b → cond b (Some start_version) (logged log k o) ≡ Some v → Numbered log k o v
        go true e h = let z : start_version ≡ v = cc in rw (← z) (first (eqb-true _ _ e))
        go false e h = logged_found log v h

    not_absent : {v : Version} → Numbered log k o v → ¬ NoOrdinal log k o
    not_absent (first z) n = n.0 z
    not_absent (later e i p q) n = every_in n.1 i (p, q)

    -- it finds v exactly if v is the version of the log with that key and that ordinal, or the start version for 0
    pub found_exactly : (v : Version) → (look_up log k o ≡ Some v) ↔ Numbered log k o v
    found_exactly v = (found_numbered v, λ n. go (look_up log k o) refl n)
      where
        go : (f : Option Version) → look_up log k o ≡ f → Numbered log k o v → f ≡ Some v
        go (Some w) e n = ap Some (numbered_one (found_numbered w e) n)
        go None e n = absurd (not_absent n ((absent_exactly log).0 e))
