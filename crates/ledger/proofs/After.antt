-- What the memory after a record stands for is what the step of the meaning makes of what it stood for before.
use Prim.Native.Nat.{ℕ, zero, suc, ◌-◌, ◌%◌, ◌<◌, ◌≤◌, ◌^◌}
use native.Mathlib.Decide.{dec_lt}
use native.Mathlib.Nat.{mod-eq_of_lt}
use native.Mathlib.Omega.{arith}
use native.Mathlib.Nat.{mod-lt}
use lib.Bits.{or_lt}
use lib.Pow.{pow-lt}
use mathlib.Core.Path.{◌≡◌, refl, sym, ◌∙◌, ap, subst}
use mathlib.Core.Bool.{Bool, true, false, cond, false≢true}
use mathlib.Core.List.{List, [], ◌∷◌}
use lib.Dec.{leb}
use lib.ListN.{length}
use borrow.Author.Tests.{leb-false}
use Rattle.lists.specs.Lists.{any}
use Rattle.records.specs.Parts.{parts_of, name_of, starts}
use Rattle.records.specs.Ledger.{Ledger, Outcome, refused, went, row_of, named, become, is_open, fresh_row, is_recorded, changed, noted, concluded, begun, moved, line_step, verdict_on, chain, resolved}
use Rattle.records.specs.declared.Record.{Record}
use Rattle.records.specs.declared.Record.TheVariants.{Start, Tune, Read, Write, Commit, Abort}
use Rattle.records.specs.declared.Row.{Row}
use Rattle.records.specs.declared.Seen.{Seen}
use Rattle.records.specs.declared.Judged.{Judged}
use Rattle.book.specs.Layout.{word_count}
use Rattle.book.specs.Book.{Fits, ledger_of, rows_in, seens_in, judged_in, row_count, read_count, verdict_count, row_loaded, row_stored, row_added, seen_added, judged_added}
use Rattle.book.proofs.Laws.{rows-length, seens-length, stored-length, stored-read-count, stored-ledger, row-added-length, row-added-seens, row-added-ledger, seen_added-length, seen_added-count, seen_added-ledger, judged-added-length, judged-added-seens, judged-added-ledger, fits-loaded}
use Rattle.rows.specs.Table.{row_number}
use Rattle.rows.proofs.Walk.{row-of}
use Rattle.rows.proofs.Stored.{stored-become}
use Rattle.ledger.specs.Take.{tidy, reply_to, on_reply, came_to, seen_pushed, judged_pushed, settled, booked, Bounded}

-- a key of 0 to 63 is taken as it is
pub tidy-same : (e : Record) → (parts_of e).key ≤ 63 → tidy e ≡ e
tidy-same (Start t) h = refl
tidy-same (Tune t b) h = refl
tidy-same (Read t x w) h = refl
tidy-same (Write t x) h = let k : x < 64 = omega arith in rw (mod-eq_of_lt k)
tidy-same (Commit t) h = refl
tidy-same (Abort t) h = refl

tidy-name : (e : Record) → name_of (tidy e) ≡ name_of e
tidy-name (Start t) = refl
tidy-name (Tune t b) = refl
tidy-name (Read t x w) = refl
tidy-name (Write t x) = refl
tidy-name (Commit t) = refl
tidy-name (Abort t) = refl

-- the row that a record makes of one that its words can say is another such row
changed-fits : (line n : ℕ) (e : Record) (r : Row) → Bounded e → Fits r → Fits (changed line n (tidy e) r)
unfolding changed
changed-fits line n (Start t) r b f = f
changed-fits line n (Tune t k) r b f = record { keys = f.keys; k1 = b.k1; k2 = b.k2; k3 = b.k3 }
changed-fits line n (Read t x w) r b f = go (is_recorded r x w)
  where
    go : (c : Bool) → Fits (cond c (record { name = r.name; start = r.start; end = r.end; keys = r.keys; bounds = r.bounds; last = suc n }) r)
    go true = record { keys = f.keys; k1 = f.k1; k2 = f.k2; k3 = f.k3 }
    go false = f
changed-fits line n (Write t x) r b f = record { keys = or_lt 64 r.keys (2 ^ (x % 64)) f.keys (pow-lt (mod-lt x (omega arith))); k1 = f.k1; k2 = f.k2; k3 = f.k3 }
changed-fits line n (Commit t) r b f = record { keys = f.keys; k1 = f.k1; k2 = f.k2; k3 = f.k3 }
changed-fits line n (Abort t) r b f = record { keys = f.keys; k1 = f.k1; k2 = f.k2; k3 = f.k3 }

-- a row stored at the number of a name, in a memory that stands for a ledger
stored-after : (ms : List ℕ) → length ms ≡ word_count → {l : Ledger} → ledger_of ms ≡ l → (x : ℕ) (q : Row) → Fits q → 0 < row_number l.rows x
    → ledger_of (row_stored ms (row_number l.rows x - 1) q) ≡ record { rows = become l.rows x q; seens = l.seens; judged = l.judged }
stored-after ms whole e =
    rw (← e)
    (λ x q f h. let p : ℕ = row_number (rows_in ms) x in
    stored-ledger ms (p - 1) q (become (rows_in ms) x q) (stored-become ms whole x q f p h refl))

-- a row that is open has a number
numbered : (ws : List ℕ) (p : ℕ) → is_open (row_loaded ws p) ≡ true → 0 < p
unfolding row_loaded
numbered ws zero h = absurd (false≢true h)
numbered ws (suc p) h = omega arith

-- the words after a start, and after another record, where they stand for what is meant
module _ (ws us : List ℕ) where
  came_begun : (m : Ledger) (a c : Bool) → (c ≡ false → ledger_of us ≡ m)
      → came_to (reply_to (cond a (refused 15) (cond c (refused 16) (went m)))) (on_reply (reply_to (cond a (refused 15) (cond c (refused 16) (went m)))) ws us)
      ≡ cond a (refused 15) (cond c (refused 16) (went m))
  came_begun m true c h = refl
  came_begun m false true h = refl
  came_begun m false false h = ap went (h refl)

  came_moved : (l m : Ledger) (o : Bool) → (o ≡ true → ledger_of us ≡ m)
      → came_to (reply_to (cond o (went l) (refused 15))) (on_reply (reply_to (cond o (went l) (refused 15))) ws us) ≡ cond o (went m) (refused 15)
  came_moved l m true h = ap went (h refl)
  came_moved l m false h = refl

module _ (ws : List ℕ) (line : ℕ) where
  -- what a record can do to the words, whatever is asked of them
  module _ (P : List ℕ → Type 0) (same : P ws) (row : (r : Row) → P (row_added ws r)) (read : (s : Seen) (i : ℕ) (r : Row) → P (row_stored (seen_added ws s) i r))
      (verdict : (j : Judged) (i : ℕ) (r : Row) → P (row_stored (judged_added ws j) i r)) (store : (i : ℕ) (r : Row) → P (row_stored ws i r))
    where
      read_case : (c : Bool) (s : Seen) (i : ℕ) (r : Row) → P (row_stored (seen_pushed ws (cond c (s ∷ []) [])) i r)
      unfolding seen_pushed
      read_case true s i r = read s i r
      read_case false s i r = store i r

      settled_case : (e : Record) (i : ℕ) (r : Row) → P (settled ws line e i r)
      unfolding settled seen_pushed judged_pushed noted concluded
      settled_case (Start t) i r = store i _
      settled_case (Tune t b) i r = store i _
      settled_case (Read t x w) i r = read_case (is_recorded r x w) _ i _
      settled_case (Write t x) i r = store i _
      settled_case (Commit t) i r = verdict _ i _
      settled_case (Abort t) i r = store i _

      reply_case : (o : Outcome) (us : List ℕ) → P us → P (on_reply (reply_to o) ws us)
      reply_case (refused n) us h = same
      reply_case (went l) us h = h

      booked_case : (e : Record) → P (booked ws line e)
      unfolding booked
      booked_case e = reply_case (line_step line e (ledger_of ws)) _ (go (starts e))
        where
          go : (c : Bool) → P (cond c (row_added ws (fresh_row line (name_of e))) (settled ws line e (row_number (rows_in ws) (name_of e) - 1) (row_of (rows_in ws) (name_of e))))
          go true = row (fresh_row line (name_of e))
          go false = settled_case e (row_number (rows_in ws) (name_of e) - 1) (row_of (rows_in ws) (name_of e))

  -- the memory stays as long as it was
  pub booked-length : (e : Record) → length (booked ws line e) ≡ length ws
  booked-length =
      booked_case (λ (us : List ℕ). length us ≡ length ws) refl (row-added-length ws) (λ s i r. stored-length (seen_added ws s) i r ∙ seen_added-length ws s)
      (λ j i r. stored-length (judged_added ws j) i r ∙ judged-added-length ws j)
      (stored-length ws)

module _ (ws : List ℕ) (line : ℕ) (whole : length ws ≡ word_count) where
  -- what a record's step of the meaning makes of an open row's ledger
  abbrev onward : Record → Row → Ledger
  onward e r =
      record {
        rows = become (rows_in ws) (name_of e) (changed line (read_count ws) (tidy e) r);
        seens = noted (rows_in ws) (tidy e) r (seens_in ws);
        judged = concluded line (rows_in ws) (seens_in ws) (tidy e) r (judged_in ws);
      }

  module _ (reads : read_count ws < 4096) (verdicts : verdict_count ws < 512) (r : Row) (f : Fits r) where
    read-ledger : (c : Bool) (t : ℕ) (s : Seen) (q : Row) → Fits q → 0 < row_number (rows_in ws) t
        → ledger_of (row_stored (seen_pushed ws (cond c (s ∷ []) [])) (row_number (rows_in ws) t - 1) q) ≡ record { rows = become (rows_in ws) t q; seens = cond c (s ∷ seens_in ws) (seens_in ws); judged = judged_in ws }
    unfolding seen_pushed
    read-ledger true t s q g h = stored-after (seen_added ws s) (seen_added-length ws s ∙ whole) (seen_added-ledger ws s whole reads) t q g h
    read-ledger false t s q g h = stored-after ws whole refl t q g h

    settled-ledger : (e : Record) → Bounded e → 0 < row_number (rows_in ws) (name_of e) → ledger_of (settled ws line e (row_number (rows_in ws) (name_of e) - 1) r) ≡ onward e r
    unfolding settled seen_pushed judged_pushed noted concluded
    settled-ledger (Start t) b h = stored-after ws whole refl t (changed line (read_count ws) (Start t) r) (changed-fits line (read_count ws) (Start t) r b f) h
    settled-ledger (Tune t k) b h = stored-after ws whole refl t (changed line (read_count ws) (Tune t k) r) (changed-fits line (read_count ws) (Tune t k) r b f) h
    settled-ledger (Read t x w) b h =
        read-ledger (is_recorded r x w) t (record { key = x; line = resolved (rows_in ws) w x; before = r.last }) (changed line (read_count ws) (Read t x w) r) (changed-fits line (read_count ws) (Read t x w) r b f) h
    settled-ledger (Write t x) b h = stored-after ws whole refl t (changed line (read_count ws) (Write t (x % 64)) r) (changed-fits line (read_count ws) (Write t x) r b f) h
    settled-ledger (Commit t) b h =
        let j : Judged = record { name = t; verdict = verdict_on (rows_in ws) (chain (seens_in ws) r.last) line r } in
        stored-after (judged_added ws j) (judged-added-length ws j ∙ whole) (judged-added-ledger ws j whole verdicts) t (changed line (read_count ws) (Commit t) r) (changed-fits line (read_count ws) (Commit t) r b f) h
    settled-ledger (Abort t) b h = stored-after ws whole refl t (changed line (read_count ws) (Abort t) r) (changed-fits line (read_count ws) (Abort t) r b f) h

  -- a start
  begins : (t : ℕ) → came_to (reply_to (begun line t (ledger_of ws))) (on_reply (reply_to (begun line t (ledger_of ws))) ws (row_added ws (fresh_row line t))) ≡ begun line t (ledger_of ws)
  begins t =
      rw (rows-length ws (row_count ws))
      (came_begun ws (row_added ws (fresh_row line t)) _ (any (named t) (rows_in ws)) (leb 512 (row_count ws))
      (λ e. row-added-ledger ws (fresh_row line t) whole (omega (arith, leb-false 512 (row_count ws) e)) (record { keys = omega arith; k1 = omega arith; k2 = omega arith; k3 = omega arith })))

  -- any other record; where its row is open there is room for a verdict
  moves : (e : Record) → read_count ws < 4096 → (is_open (row_of (rows_in ws) (name_of e)) ≡ true → verdict_count ws < 512) → Bounded e
      → came_to (reply_to (moved line e (ledger_of ws)))
      (on_reply (reply_to (moved line e (ledger_of ws))) ws (settled ws line e (row_number (rows_in ws) (name_of e) - 1) (row_of (rows_in ws) (name_of e))))
      ≡ moved line (tidy e) (ledger_of ws)
  moves e reads verdicts b =
      let r : Row = row_of (rows_in ws) (name_of e) in
      let p : ℕ = row_number (rows_in ws) (name_of e) in
      let of : r ≡ row_loaded ws p = row-of ws (name_of e) in
      rw (tidy-name e, seens-length ws (read_count ws))
      (came_moved ws (settled ws line e (p - 1) r) _ (onward e r) (is_open r) (λ o. settled-ledger reads (verdicts o) r (subst Fits (sym of) (fits-loaded ws p)) e b (numbered ws p (sym (ap is_open of) ∙ o))))

  -- the memory after a record stands for the step of the meaning
  pub ledger-after : read_count ws < 4096 → (e : Record) → (is_open (row_of (rows_in ws) (name_of e)) ≡ true → verdict_count ws < 512) → Bounded e
      → came_to (reply_to (line_step line e (ledger_of ws))) (booked ws line e) ≡ line_step line (tidy e) (ledger_of ws)
  unfolding booked line_step
  ledger-after reads (Start t) verdicts b = begins t
  ledger-after reads (Tune t k) verdicts b = moves (Tune t k) reads verdicts b
  ledger-after reads (Read t x w) verdicts b = moves (Read t x w) reads verdicts b
  ledger-after reads (Write t x) verdicts b = moves (Write t x) reads verdicts b
  ledger-after reads (Commit t) verdicts b = moves (Commit t) reads verdicts b
  ledger-after reads (Abort t) verdicts b = moves (Abort t) reads verdicts b

  -- at most one recorded read more
  pub booked-reads : (e : Record) → read_count (booked ws line e) ≤ suc (read_count ws)
  booked-reads =
      booked_case ws line (λ (us : List ℕ). read_count us ≤ suc (read_count ws)) (omega arith) (λ r. rw (counted (row_added ws r) (row-added-seens ws r)) (omega arith))
      (λ s i r. rw (stored-read-count (seen_added ws s) i r) (go s (dec_lt (read_count ws) 4096)))
      (λ j i r. rw (stored-read-count (judged_added ws j) i r, counted (judged_added ws j) (judged-added-seens ws j)) (omega arith))
      (λ i r. rw (stored-read-count ws i r) (omega arith))
    where
      counted : (us : List ℕ) → seens_in us ≡ seens_in ws → read_count us ≡ read_count ws
      counted us e = sym (seens-length us (read_count us)) ∙ ap (λ (l : List Seen). length l) e ∙ seens-length ws (read_count ws)

      go : (s : Seen) → Dec (read_count ws < 4096) → read_count (seen_added ws s) ≤ suc (read_count ws)
      go s (yes h) = omega (arith, seen_added-count ws s whole h)
      go s (no h) = omega arith
