-- Mailboxes, and at the place of each its posters and its inbox, where the lists grow at their ends.
use Rattle.std.proofs.Common.{◌≡◌, ℕ, zero, suc, List, [], ◌∷◌, ◌++◌, length, refl, sym, ap, ◌∙◌, subst, arith}
use Rattle.bench_mail.specs.declared.mailbox.Mailbox.{Mailbox}
use Rattle.bench_mail.specs.declared.mailbox.Poster.{Poster}
use Rattle.bench_mail.specs.declared.mailbox.Inbox.{Inbox}
use Rattle.bench_mail.specs.Mail.{IsInboxOf, MayPost}
use Rattle.run_tests.specs.Hosts.{AreAlong, MayPostToAll, IsMail}

module _ {X Y : Type 0} (P : X → Y → Type 0) where
  along_more : (xs : List X) (ys : List Y) (x : X) (y : Y) → length ys ≡ length xs → AreAlong P xs ys → P x y → AreAlong P (xs ++ x ∷ []) (ys ++ y ∷ [])
  along_more [] [] x y long are new zero a b at at' =
      let one : x ≡ a = cc in let two : y ≡ b = cc in subst (λ (z : X × Y). P z.0 z.1) (λ i. (one i, two i)) new
  along_more [] [] x y long are new (suc k) a b at at' = absurd cc
  along_more [] (v ∷ ys) x y long are new k a b at at' = absurd (omega (arith, long))
  along_more (u ∷ xs) [] x y long are new k a b at at' = absurd (omega (arith, long))
  along_more (u ∷ xs) (v ∷ ys) x y long are new zero a b at at' = are 0 a b at at'
  along_more (u ∷ xs) (v ∷ ys) x y long are new (suc k) a b at at' =
      along_more xs ys x y (omega (arith, long)) (λ i c d at_c at_d. are (suc i) c d at_c at_d) new k a b at at'

  along_push : (xs xs' : List X) (ys ys' : List Y) (x : X) (y : Y) → length ys ≡ length xs → AreAlong P xs ys → P x y → xs' ≡ xs ++ x ∷ [] → ys' ≡ ys ++ y ∷ [] → AreAlong P xs' ys'
  along_push xs xs' ys ys' x y long are new xs_are ys_are =
      subst (λ (z : List X × List Y). AreAlong P z.0 z.1) (λ i. (sym xs_are i, sym ys_are i)) (along_more xs ys x y long are new)

length_more : {X : Type 0} (xs : List X) (x : X) → length (xs ++ x ∷ []) ≡ suc (length xs)
length_more [] x = refl
length_more (y ∷ xs) x = ap suc (length_more xs x)

length_push : {X : Type 0} (xs xs' : List X) (x : X) → xs' ≡ xs ++ x ∷ [] → length xs' ≡ suc (length xs)
length_push xs xs' x are = ap length are ∙ length_more xs x

as_many_push : {X Y : Type 0} (xs xs' : List X) (ys ys' : List Y) (x : X) (y : Y) → length ys ≡ length xs → xs' ≡ xs ++ x ∷ [] → ys' ≡ ys ++ y ∷ [] → length ys' ≡ length xs'
as_many_push xs xs' ys ys' x y long xs_are ys_are = length_push ys ys' y ys_are ∙ ap suc long ∙ sym (length_push xs xs' x xs_are)

may_push : (host : ℕ) (boxes boxes' : List Mailbox) (posters posters' : List Poster) (box : Mailbox) (p : Poster) → MayPostToAll host boxes posters → MayPost host box p
    → boxes' ≡ boxes ++ box ∷ [] → posters' ≡ posters ++ p ∷ [] → MayPostToAll host boxes' posters'
may_push host boxes boxes' posters posters' box p may new boxes_are posters_are = record {
  as_many = as_many_push boxes boxes' posters posters' box p may.as_many boxes_are posters_are;
  each = along_push (MayPost host) boxes boxes' posters posters' box p may.as_many may.each new boxes_are posters_are;
}

-- what the mail of one job more is
pub mail_push : (boxes boxes' : List Mailbox) (firsts firsts' seconds seconds' : List Poster) (inboxes inboxes' : List Inbox) (box : Mailbox) (first second : Poster) (inbox : Inbox)
    → IsMail boxes firsts seconds inboxes → MayPost 0 box first → MayPost 1 box second → IsInboxOf box inbox
    → boxes' ≡ boxes ++ box ∷ [] → firsts' ≡ firsts ++ first ∷ [] → seconds' ≡ seconds ++ second ∷ [] → inboxes' ≡ inboxes ++ inbox ∷ []
    → IsMail boxes' firsts' seconds' inboxes'
mail_push boxes boxes' firsts firsts' seconds seconds' inboxes inboxes' box first second inbox is may may' ends are are_first are_second are_inboxes = record {
  first = may_push 0 boxes boxes' firsts firsts' box first is.first may are are_first;
  second = may_push 1 boxes boxes' seconds seconds' box second is.second may' are are_second;
  as_many = as_many_push boxes boxes' inboxes inboxes' box inbox is.as_many are are_inboxes;
  ends = along_push IsInboxOf boxes boxes' inboxes inboxes' box inbox is.as_many is.ends ends are are_inboxes;
}

none_along : {X Y : Type 0} (P : X → Y → Type 0) (ys : List Y) → AreAlong P [] ys
none_along P ys k x y at at' = absurd cc

-- there is no mail of no job
pub no_mail : (boxes : List Mailbox) (firsts seconds : List Poster) (inboxes : List Inbox) → boxes ≡ [] → firsts ≡ [] → seconds ≡ [] → inboxes ≡ [] → IsMail boxes firsts seconds inboxes
no_mail boxes firsts seconds inboxes are are_first are_second are_inboxes = rw (are, are_first, are_second, are_inboxes) (record {
  first = record { as_many = refl; each = none_along (MayPost 0) [] };
  second = record { as_many = refl; each = none_along (MayPost 1) [] };
  as_many = refl;
  ends = none_along IsInboxOf [];
})
