-- `wrote_at` meets its contract: the library's search is the one of these papers.
use Rattle.std.proofs.Common.{rules, ◌≡◌, length, ◌∙◌}
use Rattle.std.specs.Prelude.{unwrap_or}
use Rattle.std.specs.List.{position}
use Rattle.lists.proofs.Std.{find-unwrapped}
use Rattle.transaction.specs.Transaction.{wrote_at, writes_of, is_key}
use Rattle.transaction.proofs.Transaction.wrote_at.Goals as goal

pub returns : goal.returns
unfolding wrote_at
returns c =
    let ws = writes_of c.args.self in
    let e : c.unwrap_or.result ≡ unwrap_or (position (is_key c.args.key) ws) (length ws) = search rules in
    e ∙ find-unwrapped (is_key c.args.key) ws
