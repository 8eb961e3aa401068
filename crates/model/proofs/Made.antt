-- What a commit makes: "Commit installs the written keys in the order of first writing, all with the commit's stamp, each with its key's
-- next ordinal"; and so "Each commit that wrote something has one message" of 1 to 16 versions, no key twice.
use Prim.Native.Nat.{ℕ, ◌≤◌, ◌<◌}
use native.Mathlib.Omega.{arith}
use native.Mathlib.Decide.{ℕ_discrete}
use mathlib.Core.Path.{◌≡◌, refl, sym, ◌∙◌, ap, subst}
use mathlib.Core.Logic.{◌↔◌, ◌≢◌, ⊎_elim}
use mathlib.Core.Bool.{Bool, true, false, cond}
use mathlib.Core.List.{List, [], ◌∷◌, ◌++◌, map, append-nil, append_assoc}
use lib.ListN.{length, length-map}
use lib.Dec.{eqb}
use borrow.Author.Tests.{eqb-true, eq-eqb, ne_eqb}
use Rattle.lists.specs.Lists.{count, Every, none, also}
use Rattle.lists.specs.Members.{In, here, below, Distinct, empty, apart}
use Rattle.lists.proofs.Members.{in_every, in_append, in_left, in_right, in_nothing, in_one}
use Rattle.lists.proofs.Every.{every_map}
use Rattle.transaction.specs.declared.Write.{Write}
use Rattle.model.specs.Log.{Entry, versions, next, installed, made_at}
use Rattle.model.specs.Reached.{keys_of, Grown, bare, grew, OneCommit}
use Rattle.model.specs.Checks.{NothingAt}
use Rattle.model.proofs.History.{chain, chain_stamps}

-- a version of another key does not change the next ordinal
next-other : (log : List Entry) (stamp : ℕ) (v w : Write) → w.key ≢ v.key → next (next log stamp v ∷ log) stamp w ≡ next log stamp w
unfolding versions count
next-other log stamp v w h = rw (ne_eqb v.key w.key (λ e. h (sym e)))

nexts_other : (log : List Entry) (stamp : ℕ) (v : Write) (ws : List Write) → Every (λ (k : ℕ). k ≢ v.key) (keys_of ws)
    → map (next (next log stamp v ∷ log) stamp) ws ≡ map (next log stamp) ws
nexts_other log stamp v [] h = refl
nexts_other log stamp v (w ∷ ws) (also h hs) = rw (next-other log stamp v w h, nexts_other log stamp v ws hs)

-- "in the order of first writing, all with the commit's stamp, each with its key's next ordinal": what a commit adds to the versions of its
-- stamp, in log order, is its writes in their order
pub made-installed : (log : List Entry) (stamp : ℕ) (ws : List Write) → Distinct (keys_of ws) → made_at (installed log stamp ws) stamp ≡ made_at log stamp ++ map (next log stamp) ws
unfolding installed made_at
made-installed log stamp [] d = sym (append-nil (made_at log stamp))
made-installed log stamp (w ∷ ws) (apart h d) =
    made-installed (next log stamp w ∷ log) stamp ws d
    ∙ rw (eq-eqb stamp stamp refl, nexts_other log stamp w ws h) (append_assoc (made_at log stamp) (next log stamp w ∷ []) (map (next log stamp) ws))

-- the versions of another stamp stay
pub made_other : (log : List Entry) (stamp t : ℕ) (ws : List Write) → t ≢ stamp → made_at (installed log stamp ws) t ≡ made_at log t
unfolding installed made_at
made_other log stamp t [] h = refl
made_other log stamp t (w ∷ ws) h = made_other (next log stamp w ∷ log) stamp t ws h ∙ rw (ne_eqb stamp t (λ e. h (sym e)))

pub made_none : (t : ℕ) {log : List Entry} → Every (λ (e : Entry). e.stamp ≢ t) log → made_at log t ≡ []
unfolding made_at
made_none t none = refl
made_none t (also {x = e} h hs) = rw (ne_eqb e.stamp t h) (made_none t hs)

-- at a stamp past the clock nothing was made
pub made-later : {opening clock : ℕ} {log : List Entry} → Grown opening clock log → (t : ℕ) → clock < t → made_at log t ≡ []
made-later g t h = made_none t (every_map (λ (e : Entry) k q. omega arith) (chain_stamps (chain g)))

-- the versions of one stamp are those of one commit
pub one_commit : {opening clock : ℕ} {log : List Entry} → Grown opening clock log → (t : ℕ) → OneCommit log t
unfolding made_at
one_commit (bare h) t = record { before = []; writes = []; fine = record { few = omega arith; keys = none; once = empty }; made = refl }
one_commit (grew {log = log} stamp ws g b l w) t = go (ℕ_discrete t stamp) (one_commit g t)
  where
    go : Dec (t ≡ stamp) → OneCommit log t → OneCommit (installed log stamp ws) t
    go (yes e) r =
        rw e (record {
          before = log;
          writes = ws;
          fine = w;
          made = made-installed log stamp ws w.once ∙ ap (λ (es : List Entry). es ++ map (next log stamp) ws) (made-later g stamp b);
        })
    go (no h) r = record { before = r.before; writes = r.writes; fine = r.fine; made = made_other log stamp t ws h ∙ r.made }

keys-made : (log : List Entry) (t : ℕ) (ws : List Write) → map (λ (e : Entry). e.key) (map (next log t) ws) ≡ keys_of ws
keys-made log t [] = refl
keys-made log t (w ∷ ws) = ap (λ (ks : List ℕ). w.key ∷ ks) (keys-made log t ws)

module _ {opening clock : ℕ} {log : List Entry} (g : Grown opening clock log) (t : ℕ) where
  -- "1 to 16 versions; no key twice", "Keys are 0 to 63"
  pub made-few : length (made_at log t) ≤ 16
  made-few = let c = one_commit g t in rw (c.made, length-map c.writes (next c.before t)) c.fine.few

  pub made-once : Distinct (map (λ (e : Entry). e.key) (made_at log t))
  made-once = let c = one_commit g t in rw (c.made, keys-made c.before t c.writes) c.fine.once

  pub made-keys : Every (λ (k : ℕ). k ≤ 63) (map (λ (e : Entry). e.key) (made_at log t))
  made-keys = let c = one_commit g t in rw (c.made, keys-made c.before t c.writes) c.fine.keys

-- the versions of a stamp are the versions of the log that have it. Every log is taken.
pub made_in : (log : List Entry) (t : ℕ) (e : Entry) → In e (made_at log t) → In e log × (e.stamp ≡ t)
unfolding made_at
made_in [] t e i = absurd (in_nothing i)
made_in (f ∷ fs) t e i = go (eqb f.stamp t) refl (made_in fs t e) i
  where
    go : (b : Bool) → eqb f.stamp t ≡ b → (In e (made_at fs t) → In e fs × (e.stamp ≡ t)) → In e (cond b (made_at fs t ++ (f ∷ [])) (made_at fs t)) → In e (f ∷ fs) × (e.stamp ≡ t)
    go true q r i =
        ⊎_elim (λ j. let k = r j in (below k.0, k.1)) (λ j. let z = in_one j in (rw z here, ap (λ (x : Entry). x.stamp) z ∙ eqb-true _ _ q))
        (in_append (made_at fs t) (f ∷ []) i)
    go false q r i = let k = r i in (below k.0, k.1)

pub in_made : {e : Entry} {log : List Entry} → In e log → In e (made_at log e.stamp)
unfolding made_at
in_made {e = e} (here {xs = es}) = rw (eq-eqb e.stamp e.stamp refl) (in_right (made_at es e.stamp) here)
in_made {e = e} (below {y = f} {xs = es} i) = go (eqb f.stamp e.stamp) (in_made i)
  where
    go : (b : Bool) → In e (made_at es e.stamp) → In e (cond b (made_at es e.stamp ++ (f ∷ [])) (made_at es e.stamp))
    go true j = in_left (f ∷ []) j
    go false j = j

-- "18: message asked for a stamp at which no commit wrote anything". Every log is taken.
pub none_made : (log : List Entry) (t : ℕ) → (eqb (length (made_at log t)) 0 ≡ true) ↔ NothingAt log t
none_made log t = (
  λ e. in_every _ log (λ f i q. nothing (made_at log t) (eqb-true _ _ e) f (subst (λ (u : ℕ). In f (made_at log u)) q (in_made i))),
  λ h. eq-eqb _ _ (ap length (made_none t h)),
)
  where
    nothing : (l : List Entry) → length l ≡ 0 → (f : Entry) → ¬ In f l
    nothing [] e f i = in_nothing i
    nothing (x ∷ l) e f i = omega arith
