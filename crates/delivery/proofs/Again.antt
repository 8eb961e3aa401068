-- A line that was taken before changes nothing when it comes again, and a copy never goes back. Every copy and all lines are taken.
use Prim.Native.Nat.{ℕ, ◌≤◌, ◌<◌}
use mathlib.Core.Path.{◌≡◌, sym, ◌∙◌, ap, subst}
use mathlib.Core.List.{List}
use Rattle.lists.specs.Members.{In}
use Rattle.lists.proofs.Members.{every_in, in_every}
use Rattle.message.specs.Read.{read_line}
use Rattle.copy.specs.Copy.{held, take_line}
use Rattle.copy.specs.Arrivals.{Arrival, take_all, take_lines, carried, arrivals}
use Rattle.copy.specs.declared.Copy.{Copy}
use Rattle.copy.proofs.Newest.{all_length, all_grows, all_tops, all_stale, line_all, lines_all}
use Rattle.delivery.proofs.Messages.{line_arrives}

module _ (c : Copy) (lines : List (List ℕ)) where
  abbrev after : Copy
  after = take_all c (arrivals lines)

  -- "let messages be .. repeated": at once, or after any others
  pub taken-again : {line : List ℕ} → In line lines → (take_line (take_lines c lines) line).copy ≡ take_lines c lines
  taken-again {line} j = ap (λ (d : Copy). (take_line d line).copy) (lines_all c lines) ∙ line_all after line ∙ stale ∙ sym (lines_all c lines)
    where
      stale : take_all after (carried (read_line line)) ≡ after
      stale =
          all_stale after (carried (read_line line)) (in_every _ (carried (read_line line)) (λ (x : Arrival) i n.
          every_in (all_tops c (arrivals lines)) (line_arrives j i) (subst (λ (m : ℕ). x.item.key < m) (all_length c (arrivals lines)) n)))

  -- no ordinal held becomes smaller
  pub never_back : (k : ℕ) → (held c k).ordinal.0 ≤ (held (take_lines c lines) k).ordinal.0
  never_back k = subst (λ (d : Copy). (held c k).ordinal.0 ≤ (held d k).ordinal.0) (sym (lines_all c lines)) (all_grows c k (arrivals lines))
