-- A written history as document 01 words it: the list of its records, newest line first, so that the line of a record is how many
-- there are up to it; and the rules RC, BV, FV, SV, WC of a transaction in it.
use Rattle.std.specs.Prelude.{ℕ, suc, ◌≤◌, ◌<◌, Bool, true, cond, ◌&&◌, not, List, [], ◌∷◌, ◌≡◌, ◌⊎◌, ◌≢◌, eqb, leb, ltb, ℤ, pos, neg_ℤ, ◌-ℤ◌, length, ◌<ℤ◌, ◌≤ℤ◌}
use Rattle.lists.specs.Lists.{any, count, filter, Every}
use Rattle.units.specs.Bounds.{calibration}
use Rattle.units.specs.declared.Bounds.{Bounds}
use Rattle.records.specs.declared.Record.{Record}
use Rattle.records.specs.declared.Record.TheVariants.{Tune}
use Rattle.records.specs.Parts.{parts_of, name_of, commits, is_start, is_tune, is_read, is_write, is_commit}

abbrev pub History : Type 0
History = List Record

-- the line of the newest record of which p holds, 0 for none
unfoldable pub line_where : (Record → Bool) → History → ℕ
line_where p [] = 0
line_where p (r ∷ h) = cond (p r) (suc (length h)) (line_where p h)

abbrev pub start_line : History → ℕ → ℕ
start_line h t = line_where (is_start t) h

abbrev pub commit_line : History → ℕ → ℕ
commit_line h t = line_where (is_commit t) h

abbrev pub wrote : History → ℕ → ℕ → Bool
wrote h t x = any (is_write t x) h

-- "the last one counts"; M-100: "the judge keeps (1, 0, 0) for a transaction without a `k` line, as old files mean that"
unfoldable pub bounds_in : History → ℕ → Bounds
bounds_in [] t = calibration
bounds_in (r ∷ h) t = cond (is_tune t r) (parts_of r).bounds (bounds_in h t)

-- a line that is no `k` line of t
abbrev pub NoTune : ℕ → Record → Type 0
NoTune t r = (b : Bounds) → r ≢ Tune t b

-- whether a record, after the lines h, makes a version of x: "a version is a committed transaction that wrote the key"
abbrev pub makes : ℕ → History → Record → Bool
makes x h r = commits r && wrote h (name_of r) x

-- the commit lines of the versions of x, newest first; the start version has none
unfoldable pub version_lines : History → ℕ → List ℕ
version_lines [] x = []
version_lines (r ∷ h) x = cond (makes x h r) (suc (length h) ∷ version_lines h x) (version_lines h x)

-- O_x(t), with line order for stamps
abbrev pub up_to : History → ℕ → ℕ → ℕ
up_to h x t = count (λ (v : ℕ). leb v t) (version_lines h x)

abbrev pub between : History → ℕ → ℕ → ℕ → ℕ
between h x after before = count (λ (v : ℕ). ltb after v && ltb v before) (version_lines h x)

-- a read line of a transaction: the key, W, and the lines that stand before it
pub record ReadLine : Type 0 where
  pub key : ℕ
  pub source : ℕ
  pub before : History

abbrev pub read_of : Record → History → ReadLine
read_of r h = record { key = (parts_of r).key; source = (parts_of r).source; before = h }

unfoldable pub read_lines : History → ℕ → List ReadLine
read_lines [] t = []
read_lines (r ∷ h) t = cond (is_read t r) (read_of r h ∷ read_lines h t) (read_lines h t)

-- "A read with W = T is fine after T's own write of that key, and is no record for BV, FV or SV"
abbrev pub is_own : ℕ → ReadLine → Bool
is_own t x = eqb x.source t && wrote x.before t x.key

unfoldable pub recorded_reads : History → ℕ → List ReadLine
recorded_reads h t = filter (λ (x : ReadLine). not (is_own t x)) (read_lines h t)

-- the stamp of the version read: the line of W's commit, 0 for the start version
abbrev pub stamp_of : ReadLine → ℕ
stamp_of x = cond (eqb x.source 0) 0 (commit_line x.before x.source)

-- the distance of a read of a transaction that started at line s
abbrev pub distance_in : History → ℕ → ReadLine → ℤ
distance_in h s x = pos (up_to h x.key s) -ℤ pos (up_to h x.key (stamp_of x))

-- ---- the rules: what each says of one read, of one pair of reads, of one other transaction and one key

-- "W is 0 or W wrote that key and its commit line stands before the read line"
abbrev pub WithinRC : ReadLine → Type 0
WithinRC x = (x.source ≡ 0) ⊎ ((wrote x.before x.source x.key ≡ true) × (0 < commit_line x.before x.source))

module _ (h : History) (t : ℕ) where
  -- by a triple
  module _ (b : Bounds) where
    abbrev pub WithinBV : ReadLine → Type 0
    WithinBV x = distance_in h (start_line h t) x <ℤ pos b.k1

    abbrev pub WithinFV : ReadLine → Type 0
    WithinFV x = neg_ℤ (distance_in h (start_line h t) x) ≤ℤ pos b.k2

    abbrev pub WithinSV : ReadLine → ReadLine → Type 0
    WithinSV x y = between h x.key (stamp_of x) (stamp_of y) ≤ b.k3

  -- u "wrote one of T's keys" and "committed between T's start and T's commit"
  pub record Overtakes (u x : ℕ) : Type 0 where
    pub other : u ≢ t
    pub own : wrote h t x ≡ true
    pub theirs : wrote h u x ≡ true
    pub after : start_line h t < commit_line h u
    pub before : commit_line h u < commit_line h t

  -- ---- and of all: "for every other read", for every ordered pair, "no other committed transaction"

  abbrev pub KeepsRC : Type 0
  KeepsRC = Every WithinRC (recorded_reads h t)

  abbrev pub KeepsWC : Type 0
  KeepsWC = (u x : ℕ) → ¬ Overtakes u x

  module _ (b : Bounds) where
    abbrev pub KeepsBVBy : Type 0
    KeepsBVBy = Every (WithinBV b) (recorded_reads h t)

    abbrev pub KeepsFVBy : Type 0
    KeepsFVBy = Every (WithinFV b) (recorded_reads h t)

    abbrev pub KeepsSVBy : Type 0
    KeepsSVBy = Every (λ (x : ReadLine). Every (WithinSV b x) (recorded_reads h t)) (recorded_reads h t)

    -- all five
    abbrev pub KeptBy : Type 0
    KeptBy = KeepsRC × KeepsBVBy × KeepsFVBy × KeepsSVBy × KeepsWC

  -- ---- and by the transaction's own triple

  abbrev pub KeepsBV : Type 0
  KeepsBV = KeepsBVBy (bounds_in h t)

  abbrev pub KeepsFV : Type 0
  KeepsFV = KeepsFVBy (bounds_in h t)

  abbrev pub KeepsSV : Type 0
  KeepsSV = KeepsSVBy (bounds_in h t)
