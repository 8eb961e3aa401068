-- The first rule broken by any read is the least of the reads' ranks, and only the latest line read matters as SV's y.
use Prim.Native.Nat.{ℕ, ◌≤◌, max}
use native.Mathlib.Omega.{arith}
use mathlib.Core.Path.{◌≡◌, refl, sym, ◌∙◌}
use mathlib.Core.Bool.{Bool, true, false, cond, ◌||◌, ◌&&◌, and-false, false≢true}
use mathlib.Core.List.{List, [], ◌∷◌}
use lib.Dec.{leb, ltb}
use borrow.Author.Tests.{ltb-true, ltb-false, lt-ltb, le-ltb, leb-true, leb-false, eq-eqb, ne_eqb}
use Rattle.std.proofs.Math.Bool.{or_comm, or_assoc}
use Rattle.std.specs.List.{fold}
use Rattle.std.specs.Ordering.{ord_min}
use Rattle.trial.specs.contracts.RankOrd.TheImpl as rank_ord
use Rattle.lists.specs.Lists.{any}
use Rattle.lists.proofs.Every.{every_each}
use Rattle.lists.proofs.Any.{any_same}
use Rattle.lists.proofs.Count.{count_mono, count_none}
use Rattle.records.specs.Ledger.{first, unread, stale, early, apart, overtakes, verdict_on, rows_between, made_between, has}
use Rattle.records.specs.declared.Row.{Row}
use Rattle.records.specs.declared.Seen.{Seen}
use Rattle.records.specs.declared.Verdict.{Verdict}
use Rattle.records.specs.declared.Verdict.TheVariants as verdict
use Rattle.trial.specs.declared.Rank.{Rank}
use Rattle.trial.specs.declared.Rank.TheVariants.{RC, BV, FV, SV, Kept}
use Rattle.trial.specs.Trial.{latest_of, outrun, ranked, rank_of, first_of, far_of, ruled}

-- more versions lie before a later line
pub between_grows : (rows : List Row) (x after low high : ℕ) → low ≤ high → rows_between rows x after low ≤ rows_between rows x after high
unfolding rows_between
between_grows rows x after low high h = count_mono (made_between x after low) (made_between x after high) (every_each (λ r. one (has r.keys x) (ltb after r.end) r.end (ltb r.end low) refl) rows)
  where
    one : (a b : Bool) (e : ℕ) (c : Bool) → ltb e low ≡ c → (a && (b && ltb e low)) ≡ true → (a && (b && ltb e high)) ≡ true
    one true true e true f t = lt-ltb e high (omega (arith, ltb-true e low f))
    one true true e false f t = absurd (false≢true (sym f ∙ t))
    one true false e c f t = t
    one false b e c f t = t

-- nothing is committed before line 0
between_none : (rows : List Row) (x after : ℕ) → rows_between rows x after 0 ≡ 0
unfolding rows_between
between_none rows x after =
    count_none (made_between x after 0)
    (every_each (λ r. rw (le-ltb r.end 0 (omega arith), and-false (ltb after r.end)) (and-false (has r.keys x))) rows)

module _ (rows : List Row) (r : Row) (x : Seen) where
  -- some read is too far from x exactly if the latest is
  pub outrun-any : (l : List Seen) → outrun rows r (latest_of l) x ≡ any (apart rows r x) l
  unfolding any latest_of
  outrun-any [] = le-ltb r.bounds.k3 (rows_between rows x.key x.line 0) (omega (arith, between_none rows x.key x.line))
  outrun-any (y ∷ ys) = go (leb y.line (latest_of ys)) refl (outrun-any ys)
    where
      either : (u v : ℕ) → u ≤ v → ltb r.bounds.k3 v ≡ (ltb r.bounds.k3 u || ltb r.bounds.k3 v)
      either u v h = pick (ltb r.bounds.k3 u) refl
        where
          pick : (b : Bool) → ltb r.bounds.k3 u ≡ b → ltb r.bounds.k3 v ≡ (b || ltb r.bounds.k3 v)
          pick true e = lt-ltb r.bounds.k3 v (omega (arith, ltb-true r.bounds.k3 u e))
          pick false e = refl

      other : (u v : ℕ) → v ≤ u → ltb r.bounds.k3 u ≡ (ltb r.bounds.k3 u || ltb r.bounds.k3 v)
      other u v h = pick (ltb r.bounds.k3 u) refl
        where
          pick : (b : Bool) → ltb r.bounds.k3 u ≡ b → b ≡ (b || ltb r.bounds.k3 v)
          pick true e = refl
          pick false e = sym (le-ltb r.bounds.k3 v (omega (arith, ltb-false r.bounds.k3 u e)))

      go : (b : Bool) → leb y.line (latest_of ys) ≡ b → outrun rows r (latest_of ys) x ≡ any (apart rows r x) ys
          → outrun rows r (max y.line (latest_of ys)) x ≡ (apart rows r x y || any (apart rows r x) ys)
      go true e below =
          let m : max y.line (latest_of ys) ≡ latest_of ys = omega (arith, leb-true y.line (latest_of ys) e) in
          rw (m, ← below) (either _ _ (between_grows rows x.key x.line y.line (latest_of ys) (leb-true y.line (latest_of ys) e)))
      go false e below =
          let m : max y.line (latest_of ys) ≡ y.line = omega (arith, leb-false y.line (latest_of ys) e) in
          rw (m, ← below) (other _ _ (between_grows rows x.key x.line (latest_of ys) y.line (omega (arith, leb-false y.line (latest_of ys) e))))

-- the first of two rules, by the order that Rank derives
abbrev pub lesser : Rank → Rank → Rank
lesser = ord_min (rank_ord.ghosts).cmp

-- the first rule that one of two breaks
lesser_ranked : (a b c d a' b' c' d' : Bool) → lesser (ranked a b c d) (ranked a' b' c' d') ≡ ranked (a || a') (b || b') (c || c') (d || d')
lesser_ranked true b c d true b' c' d' = refl
lesser_ranked true b c d false true c' d' = refl
lesser_ranked true b c d false false true d' = refl
lesser_ranked true b c d false false false true = refl
lesser_ranked true b c d false false false false = refl
lesser_ranked false true c d true b' c' d' = refl
lesser_ranked false true c d false true c' d' = refl
lesser_ranked false true c d false false true d' = refl
lesser_ranked false true c d false false false true = refl
lesser_ranked false true c d false false false false = refl
lesser_ranked false false true d true b' c' d' = refl
lesser_ranked false false true d false true c' d' = refl
lesser_ranked false false true d false false true d' = refl
lesser_ranked false false true d false false false true = refl
lesser_ranked false false true d false false false false = refl
lesser_ranked false false false true true b' c' d' = refl
lesser_ranked false false false true false true c' d' = refl
lesser_ranked false false false true false false true d' = refl
lesser_ranked false false false true false false false true = refl
lesser_ranked false false false true false false false false = refl
lesser_ranked false false false false true b' c' d' = refl
lesser_ranked false false false false false true c' d' = refl
lesser_ranked false false false false false false true d' = refl
lesser_ranked false false false false false false false true = refl
lesser_ranked false false false false false false false false = refl

module _ (rows : List Row) (r : Row) (y : ℕ) where
  folded : (a b c d : Bool) (l : List Seen) → fold (λ (k : Rank) (s : Seen). lesser k (rank_of rows r y s)) (ranked a b c d) l
      ≡ ranked (a || any unread l) (b || any (stale rows r) l) (c || any (early rows r) l) (d || any (outrun rows r y) l)
  unfolding rank_of any
  folded a b c d [] = rw (or_comm a false, or_comm b false, or_comm c false, or_comm d false)
  folded a b c d (s ∷ ss) =
      rw (lesser_ranked a b c d (unread s) (stale rows r s) (early rows r s) (outrun rows r y s), folded (a || unread s) (b || stale rows r s) (c || early rows r s) (d || outrun rows r y s) ss, or_assoc a (unread s) (any unread ss), or_assoc b (stale rows r s) (any (stale rows r) ss), or_assoc c (early rows r s) (any (early rows r) ss), or_assoc d (outrun rows r y s) (any (outrun rows r y) ss))

  pub first_folded : (l : List Seen) → fold (λ (k : Rank) (s : Seen). lesser k (rank_of rows r y s)) Kept l ≡ first_of rows r y l
  unfolding first_of
  first_folded l = folded false false false false l

folded_latest : (y : ℕ) (l : List Seen) → fold (λ (y : ℕ) (s : Seen). max y s.line) y l ≡ max y (latest_of l)
unfolding latest_of
folded_latest y [] = omega arith
folded_latest y (s ∷ ss) = omega (arith, folded_latest (max y s.line) ss)

pub latest_folded : (l : List Seen) → fold (λ (y : ℕ) (s : Seen). max y s.line) 0 l ≡ latest_of l
latest_folded l = omega (arith, folded_latest 0 l)

ruled_by : (a b c d : Bool) (v : Verdict) → first a verdict.RC (first b verdict.BV (first c verdict.FV (first d verdict.SV v))) ≡ ruled (ranked a b c d) v
unfolding ruled
ruled_by true b c d v = refl
ruled_by false true c d v = refl
ruled_by false false true d v = refl
ruled_by false false false true v = refl
ruled_by false false false false v = refl

-- the verdict by the first rule that any read breaks, where y is the latest line read
pub says : (rows : List Row) (ss : List Seen) (line : ℕ) (r : Row) (y : ℕ) (k : Rank) → y ≡ latest_of ss → k ≡ first_of rows r y ss
    → ruled k (first (any (overtakes line r) rows) verdict.WC verdict.Ok) ≡ verdict_on rows ss line r
unfolding verdict_on first_of
says rows ss line r y k f e =
    rw (e, f, any_same (outrun rows r (latest_of ss)) (λ (x : Seen). any (apart rows r x) ss) (every_each (λ x. outrun-any rows r x ss) ss))
    (sym (ruled_by (any unread ss) (any (stale rows r) ss) (any (early rows r) ss) (any (λ (x : Seen). any (apart rows r x) ss) ss) _))

pub says_last : (rows : List Row) (ss : List Seen) (line : ℕ) (r : Row) (y : ℕ) (b : Bool) → y ≡ latest_of ss → Kept ≡ first_of rows r y ss → b ≡ any (overtakes line r) rows
    → first b verdict.WC verdict.Ok ≡ verdict_on rows ss line r
unfolding ruled
says_last rows ss line r y b f e g = rw g (says rows ss line r y Kept f e)

-- the rank of one read: RC broken, BV or FV broken, or SV by itself
module _ (rows : List Row) (r : Row) (y : ℕ) (s : Seen) where
  pub rank_unread : s.line ≡ 4294967295 → RC ≡ rank_of rows r y s
  unfolding rank_of
  rank_unread e = rw (eq-eqb s.line 4294967295 e)

  -- BV or FV, else SV
  pub rank_first : (s.line ≡ 4294967295 → ⊥) → (far apart : Rank) → far ≡ far_of rows r s → cond (outrun rows r y s) SV Kept ≡ apart → lesser far apart ≡ rank_of rows r y s
  unfolding rank_of far_of
  rank_first some far apart e f = rw (ne_eqb s.line 4294967295 some, e, ← f) (lesser_ranked false (stale rows r s) (early rows r s) false false false false (outrun rows r y s) ∙ tidy (stale rows r s) (early rows r s) (outrun rows r y s))
    where
      tidy : (a b c : Bool) → ranked false (a || false) (b || false) c ≡ cond a BV (cond b FV (cond c SV Kept))
      tidy a b c = rw (or_comm a false, or_comm b false)
