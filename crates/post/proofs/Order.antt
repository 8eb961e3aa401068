-- Message: 18, 17. Each reply of `send` and the room after it, exactly when. Every log is taken.
use Prim.Native.Nat.{ℕ, ◌<◌}
use native.Mathlib.Decide.{dec_lt, ℕ_discrete}
use native.Mathlib.Nat.{zero-add}
use native.Mathlib.Omega.{arith}
use mathlib.Core.Path.{◌≡◌, refl, sym, ◌∙◌, ap, subst}
use mathlib.Core.Logic.{◌↔◌, ◌≢◌}
use mathlib.Core.List.{List, [], ◌∷◌, ◌++◌}
use lib.ListN.{length, drop}
use borrow.Author.Tests.{eq-eqb, ne_eqb}
use Rattle.lists.specs.Members.{In, here}
use Rattle.lists.proofs.Members.{in_every, every_in, in_nothing}
use Rattle.model.specs.Log.{Entry, made_at}
use Rattle.model.proofs.Made.{made_none, made_in, in_made}
use Rattle.decimal.specs.Write.{put}
use Rattle.decimal.proofs.Writing.{put-room, put_full}
use Rattle.message.specs.Write.{MessageReply, refused, text_reply}
use Rattle.message.proofs.Room.{text-fits, text-full}
use Rattle.delivery.specs.Sent.{message_at}
use Rattle.post.specs.Post.{posted, posted_room, NoneAt, SomeAt, Sends, nothing, too_long, sends}

module _ (log : List Entry) (stamp : ℕ) where
  pub none_made : (es : List Entry) → made_at log stamp ≡ es → length es ≡ 0 → NoneAt log stamp
  none_made [] q h = in_every (λ (e : Entry). e.stamp ≢ stamp) log (λ e i s. in_nothing (subst (In e) (ap (made_at log) s ∙ q) (in_made i)))
  none_made (e ∷ es) q h = absurd (omega arith)

  pub some-made : (es : List Entry) → made_at log stamp ≡ es → length es ≢ 0 → SomeAt log stamp
  some-made [] q h = absurd (h refl)
  some-made (e ∷ es) q h = let i : In e (made_at log stamp) = subst (In e) (sym q) here in let m = made_in log stamp e i in record { entry = e; there = m.0; made = m.1 }

  not_both : NoneAt log stamp → SomeAt log stamp → ⊥
  not_both n s = every_in n s.there s.made

  made_nothing : NoneAt log stamp → length (made_at log stamp) ≡ 0
  made_nothing n = ap length (made_none stamp n)

  made_some : SomeAt log stamp → length (made_at log stamp) ≢ 0
  made_some s e = not_both (none_made (made_at log stamp) refl e) s

  module _ (room : List ℕ) where
    abbrev line : List ℕ
    line = message_at log stamp

    -- where nothing was written, 18, and the room plays no part
    pub none_posts : NoneAt log stamp → (posted log stamp room ≡ refused 18) × (posted_room log stamp room ≡ room)
    unfolding posted posted_room
    none_posts n = (rw (eq-eqb (length (made_at log stamp)) 0 (made_nothing n)), rw (eq-eqb (length (made_at log stamp)) 0 (made_nothing n)))

    -- else the message is to go to the room
    pub some_posts : SomeAt log stamp → (posted log stamp room ≡ text_reply room line) × (posted_room log stamp room ≡ put room 0 line)
    unfolding posted posted_room
    some_posts s = (rw (ne_eqb (length (made_at log stamp)) 0 (made_some s)), rw (ne_eqb (length (made_at log stamp)) 0 (made_some s)))

    posts : {r : MessageReply} {after : List ℕ} → Sends log stamp room r after → (posted log stamp room ≡ r) × (posted_room log stamp room ≡ after)
    posts (nothing n) = none_posts n
    posts (too_long s h) = ((some_posts s).0 ∙ text-full room line h, (some_posts s).1 ∙ put_full room 0 line (omega arith))
    posts (sends s h) = (
      (some_posts s).0 ∙ text-fits room line h,
      (some_posts s).1 ∙ put-room room 0 line (omega arith) ∙ ap (λ (k : ℕ). line ++ drop k room) (zero-add (length line)),
    )

    as_posted : {r : MessageReply} {after : List ℕ} → Sends log stamp room r after → Sends log stamp room (posted log stamp room) (posted_room log stamp room)
    as_posted {r} {after} s =
        subst (λ (q : MessageReply). Sends log stamp room q (posted_room log stamp room)) (sym (posts s).0) (subst (Sends log stamp room r) (sym (posts s).1) s)

    -- one of the three
    one_of : Dec (length (made_at log stamp) ≡ 0) → Dec (length room < length line) → Sends log stamp room (posted log stamp room) (posted_room log stamp room)
    one_of (yes e) d = as_posted (nothing (none_made (made_at log stamp) refl e))
    one_of (no n) (yes h) = as_posted (too_long (some-made (made_at log stamp) refl n) h)
    one_of (no n) (no h) = as_posted (sends (some-made (made_at log stamp) refl n) (omega arith))

    sent : Sends log stamp room (posted log stamp room) (posted_room log stamp room)
    sent = one_of (ℕ_discrete (length (made_at log stamp)) 0) (dec_lt (length room) (length line))

    -- "Exactly when", for the reply and the room at once
    pub send_exactly : (r : MessageReply) (after : List ℕ) → ((posted log stamp room ≡ r) × (posted_room log stamp room ≡ after)) ↔ Sends log stamp room r after
    send_exactly r after = (λ e. subst (λ (q : MessageReply). Sends log stamp room q after) e.0 (subst (Sends log stamp room (posted log stamp room)) e.1 sent), posts)

    -- "18: message asked for a stamp at which no commit wrote anything", whatever the room
    pub eighteen_exactly : (posted log stamp room ≡ refused 18) ↔ NoneAt log stamp
    eighteen_exactly = (λ e. go sent e, λ n. (posts (nothing n)).0)
      where
        go : {r : MessageReply} {after : List ℕ} → Sends log stamp room r after → r ≡ refused 18 → NoneAt log stamp
        go (nothing n) e = n
        go (too_long s h) e = let z : ◌≡◌ {A = ℕ} 17 18 = cc in absurd (omega arith)
        go (sends s h) e = let z : ◌≡◌ {A = ℕ} 0 1 = cc in absurd (omega arith)

    -- "17: the whole output or message is longer than the lent room", where some version has the stamp
    pub seventeen_exactly : (posted log stamp room ≡ refused 17) ↔ (SomeAt log stamp × (length room < length (message_at log stamp)))
    seventeen_exactly = (λ e. go sent e, λ h. (posts (too_long h.0 h.1)).0)
      where
        go : {r : MessageReply} {after : List ℕ} → Sends log stamp room r after → r ≡ refused 17 → SomeAt log stamp × (length room < length (message_at log stamp))
        go (nothing n) e = let z : ◌≡◌ {A = ℕ} 18 17 = cc in absurd (omega arith)
        go (too_long s h) e = (s, h)
        go (sends s h) e = let z : ◌≡◌ {A = ℕ} 0 1 = cc in absurd (omega arith)

    -- a refusal leaves the room as it was
    pub refused-room : (n : ℕ) → posted log stamp room ≡ refused n → posted_room log stamp room ≡ room
    refused-room n e = go sent e
      where
        go : {r : MessageReply} {after : List ℕ} → Sends log stamp room r after → r ≡ refused n → after ≡ room
        go (nothing m) e = refl
        go (too_long s h) e = refl
        go (sends s h) e = let z : ◌≡◌ {A = ℕ} 0 1 = cc in absurd (omega arith)
