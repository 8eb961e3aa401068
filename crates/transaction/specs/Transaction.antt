-- A transaction's steps on itself. Document 01: "A transaction holds at most 16 recorded reads and 16 different keys written";
-- "Two reads of one key are two records. A second write of a key replaces the value and takes no new place."
use Rattle.std.specs.Prelude.{ℕ, ◌+◌, max, Bool, true, false, cond, List, eqb, ltb, ℤ, pos, length, get_or, take, set, replicate, Option, Some, None}
use Rattle.units.specs.Bounds.{default}
use Rattle.units.specs.declared.Bounds.{Bounds}
use Rattle.lists.specs.Lists.{find}
use Rattle.transaction.specs.declared.Mark.{Mark}
use Rattle.transaction.specs.declared.Write.{Write}
use Rattle.transaction.specs.declared.Transaction.{Transaction}

abbrev pub no_mark : Mark
no_mark = record { key = 0; ordinal = record { 0 = 0 }; stamp = record { 0 = 0 } }

abbrev pub no_write : Write
no_write = record { key = 0; value = pos 0 }

abbrev pub fresh : ℕ → Transaction
fresh n =
    record {
      name = record { 0 = n };
      live = true;
      bounds = default;
      reads = replicate 16 no_mark;
      recorded = 0;
      writes = replicate 16 no_write;
      written = 0;
    }

abbrev pub tuned : Transaction → Bounds → Transaction
tuned t b = record { name = t.name; live = t.live; bounds = b; reads = t.reads; recorded = t.recorded; writes = t.writes; written = t.written }

abbrev pub ended : Transaction → Transaction
ended t = record { name = t.name; live = false; bounds = t.bounds; reads = t.reads; recorded = t.recorded; writes = t.writes; written = t.written }

-- the recorded reads in recording order, and the written keys in the order of first writing
abbrev pub reads_of : Transaction → List Mark
reads_of t = take t.recorded t.reads

abbrev pub writes_of : Transaction → List Write
writes_of t = take t.written t.writes

unfoldable pub recorded : Transaction → Mark → Transaction
recorded t m =
    cond (ltb t.recorded 16)
    (record { name = t.name; live = t.live; bounds = t.bounds; reads = set t.reads t.recorded m; recorded = t.recorded + 1; writes = t.writes; written = t.written })
    t

abbrev pub is_key : ℕ → Write → Bool
is_key k w = eqb w.key k

-- the place of a key among the written ones, or how many there are
unfoldable pub wrote_at : Transaction → ℕ → ℕ
wrote_at t k = find (is_key k) (writes_of t)

unfoldable pub written : Transaction → ℕ → ℤ → Transaction
written t k v =
    cond (ltb (wrote_at t k) 16)
    (record {
      name = t.name;
      live = t.live;
      bounds = t.bounds;
      reads = t.reads;
      recorded = t.recorded;
      writes = set t.writes (wrote_at t k) (record { key = k; value = v });
      written = max t.written (wrote_at t k + 1);
    })
    t

unfoldable pub pending_of : Transaction → ℕ → Option ℤ
pending_of t k = cond (ltb (wrote_at t k) (length (writes_of t))) (Some (get_or (writes_of t) (wrote_at t k) no_write).value) None
