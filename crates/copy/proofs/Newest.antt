-- What a copy holds after any arrivals: for each key the version of the greatest ordinal among its own and those that arrived.
use Prim.Native.Nat.{ℕ, ◌≤◌, ◌<◌, max}
use native.Mathlib.Decide.{dec_lt, ℕ_discrete}
use native.Mathlib.Omega.{arith}
use mathlib.Core.Path.{◌≡◌, refl, sym, ap, ◌∙◌, subst}
use mathlib.Core.Logic.{◌⊎◌, inl, inr}
use mathlib.Core.List.{List, [], ◌∷◌, ◌++◌, map}
use lib.ListN.{length, get_or, length-set}
use lib.Seq.{get_or-set_same, get_or-set_other, set_out}
use Rattle.units.specs.Version.{start_version}
use Rattle.units.specs.declared.Item.{Item}
use Rattle.units.specs.declared.Version.{Version}
use Rattle.lists.specs.Lists.{Every, none, also}
use Rattle.message.specs.Read.{Reading, whole, bad, read_line}
use Rattle.copy.specs.Copy.{held, carried_version, replaced, take_item, take_items, take_reading, take_line}
use Rattle.copy.specs.Arrivals.{Arrival, arrival, take_all, take_lines, carried, arrivals, Came, here, later}
use Rattle.copy.specs.declared.Copy.{Copy}
use Rattle.copy.proofs.Steps.{item-newer, item-older, item-outside}

-- ---- one arrival

module _ (c : Copy) (s : ℕ) (i : Item) where
  item_by : (P : Copy → Type 0) → ((held c i.key).ordinal.0 < i.ordinal.0 → P (replaced c s i)) → (i.ordinal.0 ≤ (held c i.key).ordinal.0 → P c) → P (take_item c s i)
  item_by P new old = go (dec_lt (held c i.key).ordinal.0 i.ordinal.0)
    where
      go : Dec ((held c i.key).ordinal.0 < i.ordinal.0) → P (take_item c s i)
      go (yes h) = subst P (sym (item-newer c s i h)) (new h)
      go (no h) = let l : i.ordinal.0 ≤ (held c i.key).ordinal.0 = omega arith in subst P (sym (item-older c s i l)) (old l)

  pub item-length : length (take_item c s i).versions ≡ length c.versions
  item-length = item_by (λ d. length d.versions ≡ length c.versions) (λ h. length-set c.versions i.key (carried_version s i)) (λ h. refl)

  -- another key's version stays
  pub item-other : (k : ℕ) → (i.key ≡ k → ⊥) → held (take_item c s i) k ≡ held c k
  item-other k n = item_by (λ d. held d k ≡ held c k) (λ h. get_or-set_other c.versions i.key k (carried_version s i) start_version (λ e. n (sym e))) (λ h. refl)

  -- its own key's ordinal is the greater of the two
  pub item_max : i.key < length c.versions → (held (take_item c s i) i.key).ordinal.0 ≡ max (held c i.key).ordinal.0 i.ordinal.0
  item_max l =
      item_by (λ d. (held d i.key).ordinal.0 ≡ max (held c i.key).ordinal.0 i.ordinal.0)
      (λ h. ap (λ (v : Version). v.ordinal.0) (get_or-set_same c.versions i.key (carried_version s i) start_version l) ∙ omega arith)
      (λ h. omega arith)

  -- what is held is what was held, or what arrived for that key
  pub item_is : (k : ℕ) → (held (take_item c s i) k ≡ held c k) ⊎ ((i.key ≡ k) × (held (take_item c s i) k ≡ carried_version s i))
  item_is k = go (ℕ_discrete i.key k)
    where
      put : i.key ≡ k → Dec (i.key < length c.versions) → (held (replaced c s i) k ≡ held c k) ⊎ ((i.key ≡ k) × (held (replaced c s i) k ≡ carried_version s i))
      put e (yes l) = inr (e, ap (held (replaced c s i)) (sym e) ∙ get_or-set_same c.versions i.key (carried_version s i) start_version l)
      put e (no l) = inl (ap (λ (x : List Version). get_or x k start_version) (set_out c.versions i.key (carried_version s i) (omega arith)))

      go : Dec (i.key ≡ k) → (held (take_item c s i) k ≡ held c k) ⊎ ((i.key ≡ k) × (held (take_item c s i) k ≡ carried_version s i))
      go (yes e) = item_by (λ d. (held d k ≡ held c k) ⊎ ((i.key ≡ k) × (held d k ≡ carried_version s i))) (λ h. put e (dec_lt i.key (length c.versions))) (λ h. inl refl)
      go (no n) = inl (item-other k n)

  -- one that is not newer than what is held changes nothing
  pub item-stale : (i.key < length c.versions → i.ordinal.0 ≤ (held c i.key).ordinal.0) → take_item c s i ≡ c
  item-stale f = go (dec_lt i.key (length c.versions))
    where
      go : Dec (i.key < length c.versions) → take_item c s i ≡ c
      go (yes l) = item_by (λ d. d ≡ c) (λ h. absurd (omega (arith, f l))) (λ h. refl)
      go (no l) = sym (item-outside c s i (omega arith))

-- ---- any arrivals

pub all_length : (c : Copy) (xs : List Arrival) → length (take_all c xs).versions ≡ length c.versions
unfolding take_all
all_length c [] = refl
all_length c (x ∷ xs) = all_length (take_item c x.stamp x.item) xs ∙ item-length c x.stamp x.item

-- the version held is the copy's own, or one that arrived for the key, with its stamp and value
pub all_is : (c : Copy) (k : ℕ) (xs : List Arrival) → (held (take_all c xs) k ≡ held c k) ⊎ Came k (held (take_all c xs) k) xs
unfolding take_all
all_is c k [] = inl refl
all_is c k (x ∷ xs) = go (item_is c x.stamp x.item k) (all_is (take_item c x.stamp x.item) k xs)
  where
    go : (held (take_item c x.stamp x.item) k ≡ held c k) ⊎ ((x.item.key ≡ k) × (held (take_item c x.stamp x.item) k ≡ carried_version x.stamp x.item))
        → (held (take_all (take_item c x.stamp x.item) xs) k ≡ held (take_item c x.stamp x.item) k) ⊎ Came k (held (take_all (take_item c x.stamp x.item) xs) k) xs
        → (held (take_all (take_item c x.stamp x.item) xs) k ≡ held c k) ⊎ Came k (held (take_all (take_item c x.stamp x.item) xs) k) (x ∷ xs)
    go (inl p) (inl q) = inl (q ∙ p)
    go (inr p) (inl q) = inr (here p.0 (q ∙ p.1))
    go (inl p) (inr q) = inr (later q)
    go (inr p) (inr q) = inr (later q)

-- no ordinal held becomes smaller
pub all_grows : (c : Copy) (k : ℕ) (xs : List Arrival) → (held c k).ordinal.0 ≤ (held (take_all c xs) k).ordinal.0
unfolding take_all
all_grows c k [] = omega arith
all_grows c k (x ∷ xs) = omega (arith, one, all_grows (take_item c x.stamp x.item) k xs)
  where
    one : (held c k).ordinal.0 ≤ (held (take_item c x.stamp x.item) k).ordinal.0
    one = go (ℕ_discrete x.item.key k)
      where
        go : Dec (x.item.key ≡ k) → (held c k).ordinal.0 ≤ (held (take_item c x.stamp x.item) k).ordinal.0
        go (no n) = rw (item-other c x.stamp x.item k n) (omega arith)
        go (yes e) =
            item_by c x.stamp x.item (λ d. (held c k).ordinal.0 ≤ (held d k).ordinal.0)
            (λ h. subst (λ (j : ℕ). (held c j).ordinal.0 ≤ (held (replaced c x.stamp x.item) j).ordinal.0) e (grown (dec_lt x.item.key (length c.versions)) h))
            (λ h. omega arith)
          where
            grown : Dec (x.item.key < length c.versions) → (held c x.item.key).ordinal.0 < x.item.ordinal.0
                → (held c x.item.key).ordinal.0 ≤ (held (replaced c x.stamp x.item) x.item.key).ordinal.0
            grown (yes l) h = rw (get_or-set_same c.versions x.item.key (carried_version x.stamp x.item) start_version l) (omega arith)
            grown (no l) h = rw (set_out c.versions x.item.key (carried_version x.stamp x.item) (omega arith)) (omega arith)

first : (c : Copy) (x : Arrival) (xs : List Arrival) → x.item.key < length c.versions → x.item.ordinal.0 ≤ (held (take_all (take_item c x.stamp x.item) xs) x.item.key).ordinal.0
first c x xs l = omega (arith, item_max c x.stamp x.item l, all_grows (take_item c x.stamp x.item) x.item.key xs)

-- none that arrived is newer than what is held at its key
pub all_tops : (c : Copy) (xs : List Arrival) → Every (λ x. x.item.key < length c.versions → x.item.ordinal.0 ≤ (held (take_all c xs) x.item.key).ordinal.0) xs
unfolding take_all
all_tops c [] = none
all_tops c (x ∷ xs) =
    also
    (first c x xs)
    (subst (λ (n : ℕ). Every (λ y. y.item.key < n → y.item.ordinal.0 ≤ (held (take_all (take_item c x.stamp x.item) xs) y.item.key).ordinal.0) xs) (item-length c x.stamp x.item) (all_tops (take_item c x.stamp x.item) xs))

-- ---- again

-- arrivals none of which is newer than what is held change nothing
pub all_stale : (c : Copy) (xs : List Arrival) → Every (λ x. x.item.key < length c.versions → x.item.ordinal.0 ≤ (held c x.item.key).ordinal.0) xs → take_all c xs ≡ c
unfolding take_all
all_stale c [] none = refl
all_stale c (x ∷ xs) (also p ps) = ap (λ (d : Copy). take_all d xs) (item-stale c x.stamp x.item p) ∙ all_stale c xs ps

-- ---- the versions of one message

pub items_all : (c : Copy) (stamp : ℕ) (items : List Item) → take_items c stamp items ≡ take_all c (map (arrival stamp) items)
unfolding take_items take_all
items_all c stamp [] = refl
items_all c stamp (i ∷ is) = items_all (take_item c stamp i) stamp is

-- ---- lines

all_append : (c : Copy) (xs ys : List Arrival) → take_all c (xs ++ ys) ≡ take_all (take_all c xs) ys
unfolding take_all
all_append c [] ys = refl
all_append c (x ∷ xs) ys = all_append (take_item c x.stamp x.item) xs ys

whole_all : (c : Copy) (stamp : ℕ) (items : List Item) → (take_reading c (whole stamp items)).copy ≡ take_all c (carried (whole stamp items))
unfolding take_reading carried
whole_all c stamp items = items_all c stamp items

bad_all : (c : Copy) → (take_reading c bad).copy ≡ take_all c (carried bad)
unfolding take_reading carried take_all
bad_all c = refl

-- a line is take_reading as the versions that it carries
pub line_all : (c : Copy) (l : List ℕ) → (take_line c l).copy ≡ take_all c (carried (read_line l))
unfolding take_line
line_all c l = go (read_line l)
  where
    go : (r : Reading) → (take_reading c r).copy ≡ take_all c (carried r)
    go (whole stamp items) = whole_all c stamp items
    go bad = bad_all c

-- any lines, in any order, lost or repeated, are take_reading as the versions that they carry
pub lines_all : (c : Copy) (ls : List (List ℕ)) → take_lines c ls ≡ take_all c (arrivals ls)
unfolding take_lines arrivals take_all
lines_all c [] = refl
lines_all c (l ∷ ls) =
    ap (λ (d : Copy). take_lines d ls) (line_all c l) ∙ lines_all (take_all c (carried (read_line l))) ls ∙ sym (all_append c (carried (read_line l)) (arrivals ls))
