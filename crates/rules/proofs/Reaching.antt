-- The latest stamp read, and why SV's question for x is one count: the versions between two stamps grow with the later one.
use Prim.Native.Nat.{ℕ, suc, ◌+◌, ◌<◌, ◌≤◌, max}
use native.Mathlib.Numerals.{add-one}
use native.Mathlib.Omega.{arith}
use mathlib.Core.Path.{◌≡◌, refl, sym, ◌∙◌, ap}
use mathlib.Core.Bool.{Bool, true, false, cond, ◌&&◌, ◌||◌}
use mathlib.Core.List.{List, [], ◌∷◌}
use lib.Dec.{leb, ltb}
use lib.ListN.{length, get_or, drop, drop_of_length-le}
use lib.Seq.{drop-cons}
use borrow.Author.Tests.{lt-ltb, le-ltb, ltb-true, ltb-false, leb-true, leb-false}
use Rattle.lists.specs.Lists.{any, count}
use Rattle.transaction.specs.declared.Mark.{Mark}
use Rattle.transaction.specs.declared.Transaction.{Transaction}
use Rattle.transaction.specs.Transaction.{no_mark}
use Rattle.model.specs.Log.{Entry, of_key, between}
use Rattle.model.specs.Rules.{apart}
use Rattle.rules.specs.Tests.{torn, latest}

-- the latest stamp, from what is left
pub latest-more : (l : List Mark) (i last new w : ℕ) → max last (latest (drop i l)) ≡ w → i < length l → new ≡ max last (get_or l i no_mark).stamp.0
    → max new (latest (drop (i + 1) l)) ≡ w
unfolding latest
latest-more l i last new w e h f = rw (add-one i) (let k = rw (drop-cons l i no_mark h) at e in omega arith)

pub latest_over : (l : List Mark) (i last w : ℕ) → max last (latest (drop i l)) ≡ w → length l ≤ i → last ≡ w
unfolding latest
latest_over l i last w e h = let k = rw (drop_of_length-le l h) at e in omega arith

-- nothing lies before the first stamp
none-before : (log : List Entry) (x a : ℕ) → between log x a 0 ≡ 0
unfolding between count
none-before [] x a = refl
none-before (e ∷ es) x a = go (of_key x e) (ltb a e.stamp) (none-before es x a)
  where
    go : (k t : Bool) {n : ℕ} → n ≡ 0 → cond (k && (t && ltb e.stamp 0)) (suc n) n ≡ 0
    go false t h = h
    go true false h = h
    go true true h = rw (le-ltb e.stamp 0 (omega arith)) h

-- the versions between two stamps grow with the later one
between_grows : (log : List Entry) (x a b c : ℕ) → b ≤ c → between log x a b ≤ between log x a c
unfolding between count
between_grows [] x a b c h = omega arith
between_grows (e ∷ es) x a b c h = go (of_key x e) (ltb a e.stamp) e.stamp (ltb e.stamp b) refl (between_grows es x a b c h)
  where
    go : (k t : Bool) (s : ℕ) (u : Bool) → ltb s b ≡ u → {m n : ℕ} → m ≤ n → cond (k && (t && ltb s b)) (suc m) m ≤ cond (k && (t && ltb s c)) (suc n) n
    go false t s u e h = h
    go true false s u e h = h
    go true true s true e g = rw (e, lt-ltb s c (omega (arith, ltb-true s b e))) (omega arith)
    go true true s false e g = rw e (up (ltb s c) g)
      where
        up : (v : Bool) {m n : ℕ} → m ≤ n → m ≤ cond v (suc n) n
        up true h = omega arith
        up false h = h

-- so that one count, up to the latest, answers for all
module _ (f : ℕ → ℕ) (k : ℕ) (grows : (b c : ℕ) → b ≤ c → f b ≤ f c) where
  either : (a b : ℕ) → ltb k (f (max a b)) ≡ (ltb k (f a) || ltb k (f b))
  either a b = go (leb a b) refl (ltb k (f a)) refl
    where
      go : (t : Bool) → leb a b ≡ t → (u : Bool) → ltb k (f a) ≡ u → ltb k (f (max a b)) ≡ (ltb k (f a) || ltb k (f b))
      go true e u g =
          let m : max a b ≡ b = omega (arith, leb-true a b e) in
          ap (λ (n : ℕ). ltb k (f n)) m ∙ sym (absorbs u g)
        where
          absorbs : (u : Bool) → ltb k (f a) ≡ u → (ltb k (f a) || ltb k (f b)) ≡ ltb k (f b)
          absorbs true g = rw g (sym (lt-ltb k (f b) (omega (arith, ltb-true k (f a) g, grows a b (leb-true a b e)))))
          absorbs false g = rw g
      go false e u g =
          let m : max a b ≡ a = omega (arith, leb-false a b e) in
          ap (λ (n : ℕ). ltb k (f n)) m ∙ sym (absorbs u g)
        where
          absorbs : (u : Bool) → ltb k (f a) ≡ u → (ltb k (f a) || ltb k (f b)) ≡ ltb k (f a)
          absorbs true g = rw g
          absorbs false g = rw g (le-ltb k (f b) (omega (arith, ltb-false k (f a) g, grows b a (omega (arith, leb-false a b e)))))

  any-latest : f 0 ≡ 0 → (l : List Mark) → ltb k (f (latest l)) ≡ any (λ (y : Mark). ltb k (f y.stamp.0)) l
  unfolding latest any
  any-latest z [] = rw z (le-ltb k 0 (omega arith))
  any-latest z (y ∷ ys) = either y.stamp.0 (latest ys) ∙ rw (any-latest z ys)

-- a read is apart from some read exactly if it is from the latest
pub torn_by : (log : List Entry) (t : Transaction) (last : ℕ) (l : List Mark) → last ≡ latest l → (x : Mark) → torn log t last x ≡ any (apart log t x) l
torn_by log t last l e x =
    ap (λ (b : ℕ). ltb t.bounds.k3 (between log x.key x.stamp.0 b)) e
    ∙ any-latest (between log x.key x.stamp.0) t.bounds.k3 (between_grows log x.key x.stamp.0) (none-before log x.key x.stamp.0) l
