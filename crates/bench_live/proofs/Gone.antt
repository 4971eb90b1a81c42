-- Lines that were read and posted, one by one, and the hands of the channels.
use Rattle.std.proofs.Common.{◌≡◌, ℕ, zero, suc, ◌+◌, ◌^◌, ◌<◌, List, [], ◌∷◌, ◌++◌, length, map, set, length-set, Option, None, Some, IfSome, refl, sym, ap, ◌∙◌, subst, inl, inr, arith, append_assoc, append-nil}
use Rattle.std.specs.Prelude.{◌==◌, true, false, slice_get, slice_index_or, Result, Ok, Err, OnOk, IfErr, ⊤}
use Rattle.std.specs.List.{filter, position_or_len, before_first}
use Rattle.std.specs.Io.KnownBytes.{IsAtEnd}
use Rattle.std.specs.Io.BufRead.{take_through, drop_through, DropsThrough}
use Rattle.std.proofs.lemmas.Bool.{cases_eq}
use Rattle.std.proofs.lemmas.Bool.Decides.{nat_tests}
use Rattle.std.proofs.lemmas.List.{map-append, length-append}
use Rattle.std.proofs.lemmas.List.Elements.{filter-append}
use Rattle.std.proofs.lemmas.Option.{slice_get_within}
use Rattle.text_lines.specs.Words.{Text}
use Rattle.text_lines.specs.Lines.{is_line_end, text_lines}
use Rattle.bench_mail.specs.declared.mailbox.Mailbox.{Mailbox}
use Rattle.bench_mail.specs.Mail.{posted}
use Rattle.bench_live.specs.Lines.{post_of}
use Rattle.bench_live.specs.Posting.{IsHandOf, AreHandsOf, as_post, is_channel, is_for, posts_for, HavePosted, LeavesHand, IsFault, IsLineDone, AreRead, HaveGone, number_behind, IsCallDone}
use Rattle.bench_live.specs.declared.line.LivePost.{LivePost}
use Rattle.bench_live.specs.declared.desk.Desk.{Desk}
use Rattle.bench_live.specs.declared.desk.Hand.{Hand}
use Rattle.bench_live.specs.declared.posting.PostFault.{PostFault}
use Rattle.bench_live.specs.declared.posting.PostFault.TheVariants as fault
use Rattle.bench_live.proofs.Lines.{line_read, some_left}

some_same : {X : Type 0} (x y : X) → Some x ≡ Some y → x ≡ y
some_same x y is = cc

module _ {X : Type 0} where
  get_set_same : (xs : List X) (i : ℕ) (a : X) → i < length xs → slice_get (set xs i a) i ≡ Some a
  get_set_same [] i a within = absurd (omega arith)
  get_set_same (x ∷ xs) zero a within = refl
  get_set_same (x ∷ xs) (suc i) a within = get_set_same xs i a (omega arith)

  get_set_other : (xs : List X) (i k : ℕ) (a : X) → (k ≡ i → ⊥) → slice_get (set xs i a) k ≡ slice_get xs k
  get_set_other [] i k a other = refl
  get_set_other (x ∷ xs) zero zero a other = absurd (other refl)
  get_set_other (x ∷ xs) zero (suc k) a other = refl
  get_set_other (x ∷ xs) (suc i) zero a other = refl
  get_set_other (x ∷ xs) (suc i) (suc k) a other = get_set_other xs i k a (λ e. other (ap suc e))

  pub there : (xs : List X) (i : ℕ) (x d : X) → i < length xs → x ≡ slice_index_or xs i d → slice_get xs i ≡ Some x
  there [] i x d within is = absurd (omega arith)
  there (y ∷ xs) zero x d within is = ap Some (sym is)
  there (y ∷ xs) (suc i) x d within is = there xs i x d (omega arith) is

  there_is : (xs : List X) (k : ℕ) → k < length xs → (x : X) × (slice_get xs k ≡ Some x)
  there_is [] k within = absurd (omega arith)
  there_is (x ∷ xs) zero within = (x, refl)
  there_is (x ∷ xs) (suc k) within = there_is xs k (omega arith)

-- one hand anew
pub hands_set : (desk : Desk) (hands : List Hand) (i : ℕ) (box : Mailbox) (h : Hand) → AreHandsOf desk hands → i < length hands → slice_get desk.boxes.items i ≡ Some box
    → IsHandOf box h → AreHandsOf desk (set hands i h)
hands_set desk hands i box h are within there is = record {
  channels = are.channels;
  ended = are.ended;
  as_many = length-set hands i h ∙ are.as_many;
  each = λ k other found has got. elim (cases_eq k i) [
    | inl e ↦
        let same_box : box ≡ other = some_same box other (sym there ∙ ap (slice_get desk.boxes.items) (sym e) ∙ has) in
        let same_hand : h ≡ found = some_same h found (sym (get_set_same hands i h within) ∙ ap (slice_get (set hands i h)) (sym e) ∙ got) in
        subst (λ (b : Mailbox). IsHandOf b found) same_box (subst (λ (x : Hand). IsHandOf box x) same_hand is)
    | inr n ↦ are.each k other found has (sym (get_set_other hands i k h n) ∙ got)
  ];
}

-- nothing was posted
pub posted_none : (desk : Desk) (hands : List Hand) → HavePosted desk [] hands hands
posted_none desk hands = record {
  as_many = refl;
  each = λ k h h' at at'. ap (λ (x : Hand). posted x.poster) (some_same h' h (sym at' ∙ at)) ∙ sym (append-nil (posted h.poster));
}

-- one hand anew, with what is for it and for no other
posted_at : (desk : Desk) (posts : List LivePost) (hands : List Hand) (i : ℕ) (h h' : Hand) → slice_get hands i ≡ Some h → i < length hands
    → posted h'.poster ≡ posted h.poster ++ posts_for desk.channels.items i posts → ((k : ℕ) → (k ≡ i → ⊥) → posts_for desk.channels.items k posts ≡ [])
    → HavePosted desk posts hands (set hands i h')
posted_at desk posts hands i h h' there within more none = record {
  as_many = length-set hands i h';
  each = λ k a b at at'. elim (cases_eq k i) [
    | inl e ↦
        let old : h ≡ a = some_same h a (sym there ∙ ap (slice_get hands) (sym e) ∙ at) in
        let new : h' ≡ b = some_same h' b (sym (get_set_same hands i h' within) ∙ ap (slice_get (set hands i h')) (sym e) ∙ at') in
        ap (λ (x : Hand). posted x.poster) (sym new) ∙ more ∙ ap (λ (x : Hand). posted x.poster ++ posts_for desk.channels.items i posts) old
        ∙ ap (λ (n : ℕ). posted a.poster ++ posts_for desk.channels.items n posts) (sym e)
    | inr n ↦
        let same : a ≡ b = some_same a b (sym at ∙ sym (get_set_other hands i k h' n) ∙ at') in
        ap (λ (x : Hand). posted x.poster) (sym same) ∙ sym (append-nil (posted a.poster)) ∙ ap (λ l. posted a.poster ++ l) (sym (none k n))
  ];
}

pub posted_same : (desk : Desk) (hands : List Hand) (i : ℕ) (h h' : Hand) → slice_get hands i ≡ Some h → i < length hands → posted h'.poster ≡ posted h.poster
    → HavePosted desk [] hands (set hands i h')
posted_same desk hands i h h' there within same = posted_at desk [] hands i h h' there within (same ∙ sym (append-nil (posted h.poster))) (λ k other. refl)

pub same_test : (n : ℕ) → (n == n) ≡ true
same_test n = grind (arith, nat_tests)

other_test : (n k : ℕ) → (k ≡ n → ⊥) → (n == k) ≡ false
other_test n k other = grind (arith, nat_tests)

for_here : (channels : List ℕ) (post : LivePost) → posts_for channels (position_or_len (is_channel post.channel) channels) (post ∷ []) ≡ as_post post ∷ []
for_here channels post = rw (same_test (position_or_len (is_channel post.channel) channels)) refl

for_other : (channels : List ℕ) (post : LivePost) (k : ℕ) → (k ≡ position_or_len (is_channel post.channel) channels → ⊥) → posts_for channels k (post ∷ []) ≡ []
for_other channels post k other = rw (other_test (position_or_len (is_channel post.channel) channels) k other) refl

-- one more post
pub posted_one : (desk : Desk) (hands : List Hand) (i : ℕ) (h h' : Hand) (post : LivePost) → i ≡ position_or_len (is_channel post.channel) desk.channels.items → slice_get hands i ≡ Some h
    → i < length hands → posted h'.poster ≡ posted h.poster ++ as_post post ∷ [] → HavePosted desk (post ∷ []) hands (set hands i h')
posted_one desk hands i h h' post place there within more =
    posted_at desk (post ∷ []) hands i h h' there within
    (more ∙ ap (λ l. posted h.poster ++ l) (sym (for_here desk.channels.items post)) ∙ ap (λ (n : ℕ). posted h.poster ++ posts_for desk.channels.items n (post ∷ [])) (sym place))
    (λ k other. for_other desk.channels.items post k (λ e. other (e ∙ sym place)))

-- a line whose post was refused
refused : (desk : Desk) (line : Text) (hands : List Hand) (box : Mailbox) (h h' : Hand) (post : LivePost) (f : PostFault) → post_of line ≡ Ok post
    → slice_get desk.boxes.items (position_or_len (is_channel post.channel) desk.channels.items) ≡ Some box → slice_get hands (position_or_len (is_channel post.channel) desk.channels.items) ≡ Some h
    → LeavesHand box h h' post f → IsFault desk hands line f
refused desk line hands box h h' post (fault.Line bad) asks at at' leaves = absurd leaves.1
refused desk line hands box h h' post (fault.NoChannel channel) asks at at' leaves = absurd leaves.1
refused desk line hands box h h' post fault.NoTerminal asks at at' leaves = (post, asks, (box, h, at, at', leaves.1))
refused desk line hands box h h' post (fault.Spent channel) asks at at' leaves = (post, asks, (box, h, at, at', leaves.1))
refused desk line hands box h h' post (fault.Ended channel) asks at at' leaves = (post, asks, (box, h, at, at', leaves.1))

-- what became of a line that asks for a post to a channel that there is
pub line_done : (desk : Desk) (line : Text) (hands : List Hand) (i : ℕ) (box : Mailbox) (h h' : Hand) (post : LivePost) (r : Result ⊤ PostFault) → post_of line ≡ Ok post
    → i ≡ position_or_len (is_channel post.channel) desk.channels.items → slice_get desk.boxes.items i ≡ Some box → slice_get hands i ≡ Some h → i < length hands
    → OnOk r (posted h'.poster ≡ posted h.poster ++ as_post post ∷ []) → IfErr r (LeavesHand box h h' post) → IsLineDone desk line hands (set hands i h') r
line_done desk line hands i box h h' post (Ok done) asks place at at' within more leaves = (post, asks, posted_one desk hands i h h' post place at' within more)
line_done desk line hands i box h h' post (Err f) asks place at at' within more leaves = (
  posted_same desk hands i h h' at' within leaves.0,
  refused desk line hands box h h' post f asks (ap (slice_get desk.boxes.items) (sym place) ∙ at) (ap (slice_get hands) (sym place) ∙ at') leaves,
)

for_both : (channels : List ℕ) (k : ℕ) (ps qs : List LivePost) → posts_for channels k (ps ++ qs) ≡ posts_for channels k ps ++ posts_for channels k qs
for_both channels k ps qs = ap (map as_post) (filter-append (is_for channels k) ps qs) ∙ map-append as_post (filter (is_for channels k) ps) (filter (is_for channels k) qs)

-- posts behind posts
pub posted_on : (desk : Desk) (ps qs : List LivePost) (before mid after : List Hand) → HavePosted desk ps before mid → HavePosted desk qs mid after → HavePosted desk (ps ++ qs) before after
posted_on desk ps qs before mid after first then = record {
  as_many = then.as_many ∙ first.as_many;
  each = λ k a c at at'.
      let within : k < length mid = let low = slice_get_within before k a at in omega (arith, low, first.as_many) in
      let b = there_is mid k within in
      then.each k b.0 c b.1 at' ∙ ap (λ l. l ++ posts_for desk.channels.items k qs) (first.each k a b.0 at b.1)
      ∙ append_assoc (posted a.poster) (posts_for desk.channels.items k ps) (posts_for desk.channels.items k qs)
      ∙ ap (λ l. posted a.poster ++ l) (sym (for_both desk.channels.items k ps qs));
}

-- the bytes that were read into an empty line
pub line_bytes : (leaves : Option (List ℕ)) (old new bytes : Text) → old ≡ [] → bytes ≡ new → IfSome leaves (λ xs. new ≡ old ++ take_through 10 xs) → IfSome leaves (λ xs. bytes ≡ take_through 10 xs)
line_bytes None old new bytes none same gave = tt
line_bytes (Some xs) old new bytes none same gave = same ∙ gave ∙ ap (λ (l : Text). l ++ take_through 10 xs) none

-- one more line was read
pub more_read : (left leaves then : Option (List ℕ)) (lines : List Text) (line bytes : Text) → 0 < length bytes → line ≡ before_first is_line_end bytes
    → IfSome leaves (λ xs. bytes ≡ take_through 10 xs) → DropsThrough leaves then 10 → AreRead left leaves lines → AreRead left then (lines ++ line ∷ [])
more_read None leaves then lines line bytes some is gave drops so_far = tt
more_read (Some text) None then lines line bytes some is gave drops so_far = cc
more_read (Some text) (Some xs) then lines line bytes some is gave drops so_far =
    let same : xs ≡ so_far.0 = cc in
    let here : 0 < length xs = some_left xs (rw (← gave) some) in
    let first : text_lines xs ≡ line ∷ text_lines (drop_through 10 xs) = line_read xs here ∙ (rw (is, gave) refl) in
    (drop_through 10 xs, drops, so_far.2 ∙ (rw (← same, first) (sym (append_assoc lines (line ∷ []) (text_lines (drop_through 10 xs))))))

-- no line was read yet
pub none_read : (left : Option (List ℕ)) → AreRead left left []
none_read None = tt
none_read (Some text) = (text, refl, refl)

-- lines were posted, and counted on from the number of the last line before them
abbrev pub HaveCounted : Desk → ℕ → ℕ → Option (List ℕ) → Option (List ℕ) → List Hand → List Hand → Type 0
HaveCounted desk number last left leaves before after = (gone : HaveGone desk left leaves before after) × (last ≡ number_behind number (length gone.lines))

pub begins : (desk : Desk) (number : ℕ) (left : Option (List ℕ)) (hands : List Hand) → number < 2 ^ 64 → HaveCounted desk number number left left hands hands
begins desk number left hands low = (record { lines = []; posts = []; read = none_read left; asked = refl; posted = posted_none desk hands }, omega (arith, low))

-- one more line was posted
goes_on : (desk : Desk) (left leaves then : Option (List ℕ)) (before mid after : List Hand) (line bytes : Text) (post : LivePost) (number last next : ℕ)
    → HaveCounted desk number last left leaves before mid → next ≡ number_behind last 1
    → 0 < length bytes → line ≡ before_first is_line_end bytes → IfSome leaves (λ xs. bytes ≡ take_through 10 xs) → DropsThrough leaves then 10
    → post_of line ≡ Ok post → HavePosted desk (post ∷ []) mid after → HaveCounted desk number next left then before after
goes_on desk left leaves then before mid after line bytes post number last next h counts some is gave drops asks more =
    let gone = h.0 in (
      record {
        lines = gone.lines ++ line ∷ [];
        posts = gone.posts ++ post ∷ [];
        read = more_read left leaves then gone.lines line bytes some is gave drops gone.read;
        asked = map-append post_of gone.lines (line ∷ []) ∙ ap (λ l. l ++ post_of line ∷ []) gone.asked
            ∙ ap (λ x. map (λ (p : LivePost). Ok p) gone.posts ++ x ∷ []) asks ∙ sym (map-append (λ (p : LivePost). Ok p) gone.posts (post ∷ []));
        posted = posted_on desk gone.posts (post ∷ []) before mid after gone.posted more;
      },
      omega (arith, h.1, counts, length-append gone.lines (line ∷ [])),
    )

-- the same of what became of the line
pub still_on : (desk : Desk) (left leaves then : Option (List ℕ)) (before mid after : List Hand) (line bytes : Text) (d : ⊤) (number last next : ℕ)
    → HaveCounted desk number last left leaves before mid → next ≡ number_behind last 1
    → 0 < length bytes → line ≡ before_first is_line_end bytes → IfSome leaves (λ xs. bytes ≡ take_through 10 xs) → DropsThrough leaves then 10
    → IsLineDone desk line mid after (Ok d) → HaveCounted desk number next left then before after
still_on desk left leaves then before mid after line bytes d number last next h counts some is gave drops done =
    goes_on desk left leaves then before mid after line bytes done.0 number last next h counts some is gave drops done.1 done.2

-- the input is at its end
pub ends : (desk : Desk) (left leaves then : Option (List ℕ)) (before mid : List Hand) (number last : ℕ) → HaveCounted desk number last left leaves before mid → IsAtEnd leaves
    → DropsThrough leaves then 10 → IsCallDone desk number last left then before mid None
ends desk None leaves then before mid number last h end drops =
    let gone = h.0 in (record { lines = gone.lines; posts = gone.posts; read = tt; asked = gone.asked; posted = gone.posted }, h.1, tt)
ends desk (Some text) None then before mid number last h end drops = let wrong = h.0.read.1 in absurd cc
ends desk (Some text) (Some xs) then before mid number last h end drops =
    let gone = h.0 in
    let none : then ≡ Some [] = drops ∙ (rw end refl) in
    let same : gone.read.0 ≡ [] = let is = gone.read.1 in cc in
    (record { lines = gone.lines; posts = gone.posts; read = ([], none, gone.read.2 ∙ (rw same refl)); asked = gone.asked; posted = gone.posted }, h.1, none)

-- a line with a fault was read
pub tells : (desk : Desk) (left leaves then : Option (List ℕ)) (before mid after : List Hand) (line bytes : Text) (f : PostFault) (number last next : ℕ)
    → HaveCounted desk number last left leaves before mid → next ≡ number_behind last 1
    → 0 < length bytes → line ≡ before_first is_line_end bytes → IfSome leaves (λ xs. bytes ≡ take_through 10 xs) → DropsThrough leaves then 10
    → IsLineDone desk line mid after (Err f) → IsCallDone desk number next left then before after (Some (record { number = next; fault = f }))
tells desk left leaves then before mid after line bytes f number last next h counts some is gave drops done =
    let counted : next ≡ number_behind number (length h.0.lines + 1) = omega (arith, h.1, counts) in
    (mid, leaves, line, h.0, counted, refl, more_read leaves leaves then [] line bytes some is gave drops (none_read leaves), done.1, done.0)
