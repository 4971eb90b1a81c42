-- A desk grows by a channel.
use Rattle.std.proofs.Common.{◌≡◌, ℕ, zero, suc, List, [], ◌∷◌, ◌++◌, length, Some, sym, ap, ◌∙◌, subst, arith}
use Rattle.std.specs.Prelude.{slice_get}
use Rattle.std.specs.List.{AllByRecursion}
use Rattle.std.proofs.lemmas.List.{length-append}
use Rattle.bench_mail.specs.declared.mailbox.Mailbox.{Mailbox}
use Rattle.bench_mail.specs.declared.mailbox.Inbox.{Inbox}
use Rattle.bench_mail.specs.Mail.{IsInboxOf, posted}
use Rattle.bench_live.specs.Posting.{IsHandOf, IsOpened}
use Rattle.bench_live.specs.declared.desk.Desk.{Desk}
use Rattle.bench_live.specs.declared.desk.Hand.{Hand}

module _ {X Y : Type 0} (P : X → Y → Type 0) where
  along_more : (xs : List X) (ys : List Y) (x : X) (y : Y) → length ys ≡ length xs → ((k : ℕ) (a : X) (b : Y) → slice_get xs k ≡ Some a → slice_get ys k ≡ Some b → P a b) → P x y
      → (k : ℕ) (a : X) (b : Y) → slice_get (xs ++ x ∷ []) k ≡ Some a → slice_get (ys ++ y ∷ []) k ≡ Some b → P a b
  along_more [] [] x y long are new zero a b at at' =
      let one : x ≡ a = cc in let two : y ≡ b = cc in subst (λ (z : X × Y). P z.0 z.1) (λ i. (one i, two i)) new
  along_more [] [] x y long are new (suc k) a b at at' = absurd cc
  along_more [] (v ∷ ys) x y long are new k a b at at' = absurd (omega (arith, long))
  along_more (u ∷ xs) [] x y long are new k a b at at' = absurd (omega (arith, long))
  along_more (u ∷ xs) (v ∷ ys) x y long are new zero a b at at' = are 0 a b at at'
  along_more (u ∷ xs) (v ∷ ys) x y long are new (suc k) a b at at' =
      along_more xs ys x y (omega (arith, long)) (λ i c d at_c at_d. are (suc i) c d at_c at_d) new k a b at at'

all_more : {X : Type 0} (P : X → Type 0) (xs : List X) (x : X) → AllByRecursion P xs → P x → AllByRecursion P (xs ++ x ∷ [])
all_more P [] x all new = (new, tt)
all_more P (y ∷ xs) x all new = (all.0, all_more P xs x all.1 new)

one_longer : {X : Type 0} (xs xs' : List X) (x : X) → xs' ≡ xs ++ x ∷ [] → length xs' ≡ suc (length xs)
one_longer xs xs' x are = ap length are ∙ length-append xs (x ∷ []) ∙ (omega arith)

as_many : {X Y : Type 0} (xs xs' : List X) (ys ys' : List Y) (x : X) (y : Y) → length ys ≡ length xs → xs' ≡ xs ++ x ∷ [] → ys' ≡ ys ++ y ∷ [] → length ys' ≡ length xs'
as_many xs xs' ys ys' x y long are are' = one_longer ys ys' y are' ∙ ap suc long ∙ sym (one_longer xs xs' x are)

-- one channel more
pub opened_more : (desk new : Desk) (hands hands' : List Hand) (inboxes inboxes' : List Inbox) (box : Mailbox) (h : Hand) (inbox : Inbox) (channel : ℕ) (flag : _) → IsOpened desk hands inboxes
    → new.channels.items ≡ desk.channels.items ++ channel ∷ [] → new.ended.items ≡ desk.ended.items ++ flag ∷ [] → new.boxes.items ≡ desk.boxes.items ++ box ∷ []
    → hands' ≡ hands ++ h ∷ [] → inboxes' ≡ inboxes ++ inbox ∷ [] → IsHandOf box h → posted h.poster ≡ [] → IsInboxOf box inbox → IsOpened new hands' inboxes'
opened_more desk new hands hands' inboxes inboxes' box h inbox channel flag is channels ended boxes hands_are inboxes_are of fresh ends =
    let were = is.hands_are in
    record {
      hands_are = record {
        channels = as_many desk.boxes.items new.boxes.items desk.channels.items new.channels.items box channel were.channels boxes channels;
        ended = as_many desk.boxes.items new.boxes.items desk.ended.items new.ended.items box flag were.ended boxes ended;
        as_many = as_many desk.boxes.items new.boxes.items hands hands' box h were.as_many boxes hands_are;
        each = subst (λ (z : List Mailbox × List Hand). (k : ℕ) (a : Mailbox) (b : Hand) → slice_get z.0 k ≡ Some a → slice_get z.1 k ≡ Some b → IsHandOf a b)
            (λ i. (sym boxes i, sym hands_are i)) (along_more IsHandOf desk.boxes.items hands box h were.as_many were.each of);
      };
      fresh = subst (λ (l : List Hand). AllByRecursion (λ (x : Hand). posted x.poster ≡ []) l) (sym hands_are) (all_more (λ (x : Hand). posted x.poster ≡ []) hands h is.fresh fresh);
      as_many = as_many desk.boxes.items new.boxes.items inboxes inboxes' box inbox is.as_many boxes inboxes_are;
      ends = subst (λ (z : List Mailbox × List Inbox). (k : ℕ) (a : Mailbox) (b : Inbox) → slice_get z.0 k ≡ Some a → slice_get z.1 k ≡ Some b → IsInboxOf a b)
          (λ i. (sym boxes i, sym inboxes_are i)) (along_more IsInboxOf desk.boxes.items inboxes box inbox is.as_many is.ends ends);
    }
