-- A version that a read answers stands in the log, or is the start version; and its count up to its stamp is its ordinal.
use Prim.Native.Nat.{ℕ, ◌≤◌}
use native.Mathlib.Omega.{arith}
use mathlib.Core.Path.{◌≡◌, refl, sym, ◌∙◌, ap}
use mathlib.Core.Bool.{Bool, true, false, cond, ◌&&◌}
use mathlib.Core.List.{List, [], ◌∷◌}
use lib.Dec.{eqb}
use borrow.Author.Tests.{eqb-true}
use Rattle.lists.specs.Members.{In, here, below}
use Rattle.lists.proofs.Members.{every_in}
use Rattle.units.specs.Version.{start_version}
use Rattle.units.specs.declared.Version.{Version}
use Rattle.std.specs.Prelude.{Some}
use Rattle.transaction.specs.declared.Mark.{Mark}
use Rattle.transaction.specs.declared.Write.{Write}
use Rattle.model.specs.Log.{Entry, version_of, up_to, next, newest, logged, look_up, installed}
use Rattle.model.specs.Step.{marked}
use Rattle.model.specs.Reached.{Chain, Stands, loaded, stored}
use Rattle.model.proofs.History.{chain_stamps, ordinal_counts, load_counts}

-- what stands in a log stands in one that has its versions too
pub stands-more : {log later : List Entry} {x : Mark} → ((e : Entry) → In e log → In e later) → Stands log x → Stands later x
stands-more f (loaded o s) = loaded o s
stands-more f (stored e i k o s) = stored e (f e i) k o s

pub in_installed : (log : List Entry) (stamp : ℕ) (ws : List Write) (e : Entry) → In e log → In e (installed log stamp ws)
unfolding installed
in_installed log stamp [] e i = i
in_installed log stamp (w ∷ ws) e i = in_installed (next log stamp w ∷ log) stamp ws e (below i)

stands_here : (e : Entry) (es : List Entry) (k : ℕ) → e.key ≡ k → Stands (e ∷ es) (marked k (version_of e))
stands_here e es k q = stored e here q refl refl

-- "A read at the master answers the key's newest version and records it"
pub stands-newest : (log : List Entry) (k : ℕ) → Stands log (marked k (newest log k))
unfolding newest
stands-newest [] k = loaded refl refl
stands-newest (e ∷ es) k = go (eqb e.key k) refl (stands-newest es k)
  where
    go : (b : Bool) → eqb e.key k ≡ b → Stands es (marked k (newest es k)) → Stands (e ∷ es) (marked k (cond b (version_of e) (newest es k)))
    go true q r = stands_here e es k (eqb-true _ _ q)
    go false q r = stands-more (λ f i. below i) r

stands-logged : (log : List Entry) (k o : ℕ) (v : Version) → logged log k o ≡ Some v → Stands log (marked k v)
unfolding logged
stands-logged [] k o v h = let z : ◌≡◌ {A = ℕ} 0 1 = cc in absurd (omega arith)
stands-logged (e ∷ es) k o v h = go (eqb e.key k) refl (eqb e.ordinal o) (stands-logged es k o v) h
  where
    go : (b : Bool) → eqb e.key k ≡ b → (c : Bool) → (logged es k o ≡ Some v → Stands es (marked k v)) → cond (b && c) (Some (version_of e)) (logged es k o) ≡ Some v → Stands (e ∷ es) (marked k v)
    go true q true r h = let z : version_of e ≡ v = cc in rw (← z) (stands_here e es k (eqb-true _ _ q))
    go true q false r h = stands-more (λ f i. below i) (r h)
    go false q c r h = stands-more (λ f i. below i) (r h)

-- "A note records a version that the client read at a copy, by key and ordinal; the master looks it up"
pub stands_found : (log : List Entry) (k o : ℕ) (v : Version) → look_up log k o ≡ Some v → Stands log (marked k v)
unfolding look_up
stands_found log k o v = go (eqb o 0)
  where
    go : (b : Bool) → cond b (Some start_version) (logged log k o) ≡ Some v → Stands log (marked k v)
    go true h = let z : start_version ≡ v = cc in rw (← z) (loaded refl refl)
    go false h = stands-logged log k o v h

module _ {opening clock : ℕ} {log : List Entry} {x : Mark} (c : Chain opening clock log) where
  -- "the start version not counted": what document 01 counts up to the version read, O_x(c_j), is that version's ordinal
  pub stands_counts : Stands log x → up_to log x.key x.stamp.0 ≡ x.ordinal.0
  stands_counts (loaded o s) = ap (up_to log x.key) s ∙ load_counts c x.key ∙ sym o
  stands_counts (stored e i k o s) = ap (λ (n : ℕ). up_to log n x.stamp.0) (sym k) ∙ ap (up_to log e.key) (sym s) ∙ ordinal_counts c i ∙ o

  pub stands-stamp : Stands log x → x.stamp.0 ≤ clock
  stands-stamp (loaded o s) = omega arith
  stands-stamp (stored e i k o s) = let h = every_in (chain_stamps c) i in omega arith
