-- What sending comes to, by what the master's versions of a stamp are.
use Prim.Native.Nat.{ℕ}
use native.Mathlib.Omega.{arith}
use mathlib.Core.Path.{◌≡◌, refl, sym, ◌∙◌, ap}
use mathlib.Core.Bool.{Bool, true, false, cond}
use mathlib.Core.List.{List}
use lib.Dec.{eqb}
use borrow.Author.Tests.{eqb-true, eqb-false}
use lib.ListN.{length, take}
use Rattle.std.specs.Prelude.{Result, Ok, Err}
use Rattle.units.specs.Refusal.{number_of}
use Rattle.units.specs.declared.Batch.{Batch}
use Rattle.units.specs.declared.refusal.Refusal.{Refusal}
use Rattle.units.proofs.Numbers.{number_pos}
use Rattle.model.specs.Log.{Entry, made_at}
use Rattle.model.specs.Call as call
use Rattle.model.specs.Call.{Message, Reply, made}
use Rattle.model.specs.State.{State}
use Rattle.model.specs.Step.{answers, order, checks_of, final_of, step}
use Rattle.model.proofs.Replies.{told}
use Rattle.master.specs.Master.{made_reply}
use Rattle.versions.specs.Batch.{batch_of}
use Rattle.versions.proofs.Gathering.{items_of_batch}
use Rattle.decimal.specs.Write.{put}
use Rattle.message.specs.Line.{message_text, items_of}
use Rattle.message.specs.Write.{refused, text_reply, message_reply}
use Rattle.delivery.specs.Sent.{message_at}
use Rattle.post.specs.Post.{posted, posted_room}
use Rattle.post.proofs.Order.{none_made, some-made, none_posts, some_posts}

abbrev number : Reply → ℕ
number r = (told r).number

module _ (s : State) (st : ℕ) (a : Result Batch Refusal) (e : made_reply a (made_at s.log st) ≡ (step s (Message st)).reply) where
  abbrev log : List Entry
  log = s.log

  said : number (made_reply a (made_at log st)) ≡ cond (eqb (length (made_at log st)) 0) 18 0
  unfolding step checks_of final_of order
  said = ap number e ∙ go (eqb (length (made_at log st)) 0)
    where
      go : (t : Bool) → number (cond t (answers s (call.refused 18)) (answers s (made (take 16 (made_at log st))))).reply ≡ cond t 18 0
      go true = refl
      go false = refl

  pub refused-sends : (f : Refusal) (room : List ℕ) → a ≡ Err f → (message_reply (Err f) ≡ posted log st room) × (room ≡ posted_room log st room)
  refused-sends f room h = go (eqb (length (made_at log st)) 0) refl (sym (ap (λ (x : Result Batch Refusal). number (made_reply x (made_at log st))) h) ∙ said)
    where
      go : (t : Bool) → eqb (length (made_at log st)) 0 ≡ t → number_of f ≡ cond t 18 0 → (message_reply (Err f) ≡ posted log st room) × (room ≡ posted_room log st room)
      go true q n =
          let p = none_posts log st room (none_made log st (made_at log st) refl (eqb-true (length (made_at log st)) 0 q)) in
          (ap refused n ∙ sym p.0, sym p.1)
      go false q n = absurd (omega (arith, number_pos f))

  pub made-sends : (b : Batch) (room after : List ℕ) (r : Result ℕ Refusal) → a ≡ Ok b → b ≡ batch_of (made_at log st) → message_reply r ≡ text_reply room (message_text st (items_of b))
      → after ≡ put room 0 (message_text st (items_of b)) → (message_reply r ≡ posted log st room) × (after ≡ posted_room log st room)
  unfolding message_at
  made-sends b room after r h g w x = go (eqb (length (made_at log st)) 0) refl (sym (ap (λ (y : Result Batch Refusal). number (made_reply y (made_at log st))) h) ∙ said)
    where
      line : message_text st (items_of b) ≡ message_at log st
      line = ap (message_text st) (ap items_of g ∙ items_of_batch (made_at log st))

      go : (t : Bool) → eqb (length (made_at log st)) 0 ≡ t → ◌≡◌ {A = ℕ} 0 (cond t 18 0) → (message_reply r ≡ posted log st room) × (after ≡ posted_room log st room)
      go true q n = absurd (omega arith)
      go false q n =
          let p = some_posts log st room (some-made log st (made_at log st) refl (eqb-false (length (made_at log st)) 0 q)) in
          (w ∙ ap (text_reply room) line ∙ sym p.0, x ∙ ap (put room 0) line ∙ sym p.1)
