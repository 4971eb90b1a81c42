-- Posts that a channel's thread places, one more at a time.
use Rattle.std.proofs.Common.{◌≡◌, ℕ, zero, suc, ◌+◌, ◌-◌, ◌^◌, ◌<◌, ◌≤◌, List, [], ◌∷◌, ◌++◌, length, map, take, append-nil, refl, sym, ap, ◌∙◌, subst, arith}
use Rattle.std.specs.List.{AllByRecursion}
use Rattle.std.proofs.lemmas.List.{map-append, length-append, length-map, append_assoc}
use Rattle.bc_machine.specs.declared.placed.Placed.{Placed}
use Rattle.bc_machine.specs.declared.placed.HostAction.{HostAction}
use Rattle.bc_machine.specs.Running.{MachineState}
use Rattle.bc_machine.specs.Posting.{with_placed, with_room, at_next}
use Rattle.bc_machine.specs.UnderWay.{IsUnderWay}
use Rattle.job_file.specs.Beside.{with_posted}
use Rattle.job_file.specs.Jobs.{JobState, job_in}
use Rattle.job_file.specs.ChannelJobs.{ChannelJob}
use Rattle.job_file.specs.Machines.{IsOf}
use Rattle.bench_report.specs.Reports.{NeverFalls}
use Rattle.bench_settings.specs.Placing.{placed_up_to}
use Rattle.bench_mail.specs.declared.mailbox.Post.{Post}
use Rattle.bench_run.specs.declared.posting.Posts.{Posts}
use Rattle.bench_mail.specs.declared.mailbox.Inbox.{Inbox}
use Rattle.bench_mail.specs.Mail.{received_by, times_empty}
use Rattle.bench_run.specs.Live.{asked_by, asked_at, ArePlaced}
use Rattle.bench_run.specs.Posted.{AreTaken, IsPosted, TakesPosts}
use Rattle.bench_run.proofs.Offering.{all_more}

take_within : {X : Type 0} (n : ℕ) (xs ys : List X) → n ≤ length xs → take n (xs ++ ys) ≡ take n xs
take_within zero xs ys low = refl
take_within (suc n) [] ys low = absurd (omega (arith, low))
take_within (suc n) (x ∷ xs) ys low = ap (λ l. x ∷ l) (take_within n xs ys (omega (arith, low)))

take_length : {X : Type 0} (n : ℕ) (xs : List X) → length xs ≡ n → take n xs ≡ xs
take_length zero [] e = refl
take_length zero (x ∷ xs) e = absurd (omega (arith, e))
take_length (suc n) [] e = refl
take_length (suc n) (x ∷ xs) e = ap (λ l. x ∷ l) (take_length n xs (omega (arith, e)))

length-take_le : {X : Type 0} (n : ℕ) (xs : List X) → length (take n xs) ≤ length xs
length-take_le zero xs = omega arith
length-take_le (suc n) [] = omega arith
length-take_le (suc n) (x ∷ xs) = let rest = length-take_le n xs in omega (arith, rest)

-- no more were placed than received
pub few_placed : (posts : List Placed) (got : List Post) → map asked_at posts ≡ take (length posts) (map asked_by got) → length posts ≤ length got
few_placed posts got first =
    let same = ap length first in
    let low = length-take_le (length posts) (map asked_by got) in
    omega (arith, same, low, length-map posts asked_at, length-map got asked_by)

order_more : (low : ℕ) (ps : List Placed) (x : Placed) → low ≤ x.number → NeverFalls low ps → AllByRecursion (λ q. q.number ≤ x.number) ps → NeverFalls low (ps ++ x ∷ [])
order_more low [] x le order all = (le, tt)
order_more low (p ∷ ps) x le order all = (order.0, order_more p.number ps x all.0 order.1 all.1)

pub later : (n m : ℕ) (ps : List Placed) → n ≤ m → AllByRecursion (λ q. q.number ≤ n) ps → AllByRecursion (λ q. q.number ≤ m) ps
later n m [] le all = tt
later n m (p ∷ ps) le all = (omega (arith, le, all.0), later n m ps le all.1)

-- room for more makes no other controller
pub with_more_room : (job : ChannelJob) (placed : List Placed) (m x : MachineState) (count : ℕ) → x ≡ with_room m count → IsUnderWay x → IsOf job placed m → IsOf job placed x
with_more_room job placed m x count is under_way of = record {
  code = ap (λ (z : MachineState). z.code) is ∙ of.code;
  plan = ap (λ (z : MachineState). z.plan) is ∙ of.plan;
  actions = ap (λ (z : MachineState). z.placed) is ∙ of.actions;
  begun = ap (λ (z : MachineState). z.begun) is ∙ of.begun;
  under_way = under_way;
}

-- these actions are placed one behind the other
pub posted_more : (m a b : MachineState) (posted : List HostAction) (x : HostAction) → a ≡ with_posted posted m → b ≡ with_placed a (a.placed ++ at_next a x ∷ [])
    → b ≡ with_posted (posted ++ x ∷ []) m
posted_more m a b posted x is more =
    more ∙ ap (λ (z : MachineState). with_placed z (z.placed ++ at_next z x ∷ [])) is
    ∙ ap (λ (ps : List Placed). with_placed m ps)
    (append_assoc m.placed (map (at_next m) posted) (at_next m x ∷ []) ∙ ap (λ l. m.placed ++ l) (sym (map-append (at_next m) posted (x ∷ []))))

-- none are
pub nothing_posted : (m : MachineState) → m ≡ with_posted [] m
nothing_posted m = ap (λ (ps : List Placed). with_placed m ps) (sym (append-nil m.placed))

module _ (most : ℕ) (before : Inbox) where
  -- a post was received and placed at the next message
  pub one_taken : (number : ℕ) (posts : List Placed) (p p' : Posts) (x : Post) (y : Placed) → AreTaken most before number posts p → 0 < p.left → p'.left + 1 ≡ p.left
      → received_by p'.inbox ≡ received_by p.inbox ++ x ∷ [] → times_empty p'.inbox ≡ times_empty p.inbox → y ≡ record { number = number + 1; action = x.action }
      → AreTaken most before number (posts ++ y ∷ []) p'
  one_taken number posts p p' x y is some less received times at =
      let same = is.all some in
      let at_number : y.number ≡ number + 1 = ap (λ (z : Placed). z.number) at in
      let long : length (map asked_by is.got) ≡ length posts = length-map is.got asked_by ∙ sym same in
      let all_asked : map asked_at posts ≡ map asked_by is.got = is.first ∙ take_length (length posts) (map asked_by is.got) long in
      let asked : asked_at y ≡ asked_by x = ap asked_at at in
      let more : length (posts ++ y ∷ []) ≡ length (map asked_by (is.got ++ x ∷ [])) =
      omega (arith, length-append posts (y ∷ []), length-map (is.got ++ x ∷ []) asked_by, length-append is.got (x ∷ []), same) in
      record {
        got = is.got ++ x ∷ [];
        received = received ∙ ap (λ l. l ++ x ∷ []) is.received ∙ append_assoc (received_by before) is.got (x ∷ []);
        few = omega (arith, is.few, less, length-append is.got (x ∷ []));
        first = map-append asked_at posts (y ∷ []) ∙ ap (λ l. l ++ asked_at y ∷ []) all_asked ∙ ap (λ (a : HostAction). map asked_by is.got ++ a ∷ []) asked ∙ sym (map-append asked_by is.got (x ∷ []))
            ∙ sym (take_length (length (posts ++ y ∷ [])) (map asked_by (is.got ++ x ∷ [])) (sym more));
        all = λ left. omega (arith, same, length-append posts (y ∷ []), length-append is.got (x ∷ []));
        rest = λ _. omega (arith, is.rest same, less, length-append is.got (x ∷ []));
        nearly_all = omega (arith, same, length-append posts (y ∷ []), length-append is.got (x ∷ []));
        emptied = λ _ low. let before_that = is.emptied some (omega (arith, low, times)) in omega (arith, before_that, times);
        order = order_more 1 posts y (omega (arith, at_number)) is.order (subst (λ n. AllByRecursion (λ q. q.number ≤ n) posts) (sym at_number) is.latest);
        latest = all_more (λ q. q.number ≤ number + 1) posts y is.latest (omega (arith, at_number));
      }

  -- a post was received, and no more are taken
  pub one_dropped : (number : ℕ) (posts : List Placed) (p p' : Posts) (x : Post) → AreTaken most before number posts p → 0 < p.left → p'.left ≡ 0
      → received_by p'.inbox ≡ received_by p.inbox ++ x ∷ [] → AreTaken most before number posts p'
  one_dropped number posts p p' x is some none received = record {
    got = is.got ++ x ∷ [];
    received = received ∙ ap (λ l. l ++ x ∷ []) is.received ∙ append_assoc (received_by before) is.got (x ∷ []);
    few = omega (arith, is.few, some, none, length-append is.got (x ∷ []));
    first = is.first ∙ sym (ap (take (length posts)) (map-append asked_by is.got (x ∷ []))
        ∙ take_within (length posts) (map asked_by is.got) (asked_by x ∷ []) (omega (arith, few_placed posts is.got is.first, length-map is.got asked_by)));
    all = λ left. absurd (omega (arith, left, none));
    rest = λ even. absurd (omega (arith, even, is.all some, length-append is.got (x ∷ [])));
    nearly_all = omega (arith, is.all some, length-append is.got (x ∷ []));
    emptied = λ left low. absurd (omega (arith, left, none));
    order = is.order;
    latest = is.latest;
  }

  -- nothing was received
  pub none_taken : (number : ℕ) (posts : List Placed) (p p' : Posts) → AreTaken most before number posts p → p'.left ≡ p.left → received_by p'.inbox ≡ received_by p.inbox
      → times_empty p.inbox ≤ times_empty p'.inbox → AreTaken most before number posts p'
  none_taken number posts p p' is left received times = record {
    got = is.got;
    received = received ∙ is.received;
    few = omega (arith, is.few, left);
    first = is.first;
    all = λ some. is.all (omega (arith, some, left));
    rest = λ even. omega (arith, is.rest even, left);
    nearly_all = is.nearly_all;
    emptied = λ some low. let before_that = is.emptied (omega (arith, some, left)) (omega (arith, low, times)) in omega (arith, before_that, times);
    order = is.order;
    latest = is.latest;
  }

  -- the controller went on
  unfoldable pub taken_on : (number number' : ℕ) (posts : List Placed) (p : Posts) → AreTaken most before number posts p → number ≤ number'
      → (0 < p.left → times_empty p.inbox < 2 ^ 64 - 1 → times_empty before + number' ≤ times_empty p.inbox) → AreTaken most before number' posts p
  taken_on number number' posts p is up emptied = record {
    got = is.got;
    received = is.received;
    few = is.few;
    first = is.first;
    all = is.all;
    rest = is.rest;
    nearly_all = is.nearly_all;
    emptied = emptied;
    order = is.order;
    latest = later (number + 1) (number' + 1) posts (omega (arith, up)) is.latest;
  }

  -- what became of the posts, once all messages were made
  pub all_placed : (made : ℕ) (posts : List Placed) (p : Posts) (after : Inbox) → AreTaken most before made posts p → after ≡ p.inbox → ArePlaced most made before after posts
  all_placed made posts p after is inbox = record {
    got = is.got;
    received = ap received_by inbox ∙ is.received;
    few = omega (arith, is.few);
    first = is.first;
    nearly_all = is.nearly_all;
    emptied = λ even few low.
        let times = ap times_empty inbox in
        let before_that = is.emptied (omega (arith, is.rest even, few)) (omega (arith, low, times)) in
        omega (arith, before_that, times);
    order = is.order;
    latest = is.latest;
  }

  -- before any message
  pub nothing_taken : (p : Posts) → p.left ≡ most → p.inbox ≡ before → AreTaken most before 0 [] p
  nothing_taken p left inbox = record {
    got = [];
    received = ap received_by inbox ∙ sym (append-nil (received_by before));
    few = omega (arith, left);
    first = refl;
    all = λ some. refl;
    rest = λ _. omega (arith, left);
    nearly_all = omega arith;
    emptied = λ some low. omega (arith, ap times_empty inbox);
    order = tt;
    latest = tt;
  }

  -- no more were placed than may be taken
  pub few_posts : (number : ℕ) (posts : List Placed) (p : Posts) → AreTaken most before number posts p → length posts + p.left ≤ most
  few_posts number posts p is = omega (arith, few_placed posts is.got is.first, is.few)

-- ---- in front of a message

-- nothing was taken yet
pub takes_none : (m : MachineState) (p : Posts) → TakesPosts m m p p
takes_none m p = record {
  posted = [];
  machine = nothing_posted m;
  few = omega arith;
  taken = λ most before posts is. subst (λ (ps : List Placed). AreTaken most before m.point.number ps p) (sym (append-nil posts)) is;
}

module _ (m a b : MachineState) (p q q' : Posts) (x : Post) (is : TakesPosts m a p q) where
  -- one more was, and placed
  pub takes_one : 0 < q.left → q'.left + 1 ≡ q.left → received_by q'.inbox ≡ received_by q.inbox ++ x ∷ [] → times_empty q'.inbox ≡ times_empty q.inbox
      → b ≡ with_placed a (a.placed ++ at_next a x.action ∷ []) → TakesPosts m b p q'
  takes_one some less received times moved =
      let y : Placed = at_next m x.action in
      record {
        posted = is.posted ++ x.action ∷ [];
        machine = posted_more m a b is.posted x.action is.machine moved;
        few = omega (arith, is.few, less, length-append is.posted (x.action ∷ []));
        taken = λ most before posts was.
            let there = one_taken most before m.point.number (posts ++ map (at_next m) is.posted) q q' x y (is.taken most before posts was) some less received times refl in
            subst (λ (ps : List Placed). AreTaken most before m.point.number ps q')
            (append_assoc posts (map (at_next m) is.posted) (y ∷ []) ∙ ap (λ l. posts ++ l) (sym (map-append (at_next m) is.posted (x.action ∷ [])))) there;
      }

  -- one more was, and lost
  pub takes_lost : 0 < q.left → q'.left ≡ 0 → received_by q'.inbox ≡ received_by q.inbox ++ x ∷ [] → b ≡ a → TakesPosts m b p q'
  takes_lost some none received same = record {
    posted = is.posted;
    machine = same ∙ is.machine;
    few = omega (arith, is.few, none);
    taken = λ most before posts was. one_dropped most before m.point.number (posts ++ map (at_next m) is.posted) q q' x (is.taken most before posts was) some none received;
  }

-- nothing more was there
pub takes_no_more : (m a : MachineState) (p q q' : Posts) → TakesPosts m a p q → q'.left ≡ q.left → received_by q'.inbox ≡ received_by q.inbox → times_empty q.inbox ≤ times_empty q'.inbox
    → TakesPosts m a p q'
takes_no_more m a p q q' is left received times = record {
  posted = is.posted;
  machine = is.machine;
  few = omega (arith, is.few, left);
  taken = λ most before posts was. none_taken most before m.point.number (posts ++ map (at_next m) is.posted) q q' (is.taken most before posts was) left received times;
}

-- ---- the posts of a job that is run by its numbers

module _ (most : ℕ) (before : Inbox) (job : JobState) where
  -- a post was received and placed at the next message
  pub one_placed : (m m' : MachineState) (p p' : Posts) (x : Post) → IsPosted most before job m p → 0 < p.left → p'.left + 1 ≡ p.left
      → received_by p'.inbox ≡ received_by p.inbox ++ x ∷ [] → times_empty p'.inbox ≡ times_empty p.inbox
      → m' ≡ with_placed m (m.placed ++ at_next m x.action ∷ []) → IsUnderWay m'
      → ((actions : List Placed) → p.ordered.actions ≡ placed_up_to 1000000 actions → p'.ordered.actions ≡ placed_up_to 1000000 (actions ++ at_next m x.action ∷ []))
      → IsPosted most before job m' p'
  one_placed m m' p p' x is some less received times moved under_way listed =
      let y : Placed = at_next m x.action in
      let grown : (job.actions ++ is.posts) ++ y ∷ [] ≡ job.actions ++ (is.posts ++ y ∷ []) = append_assoc job.actions is.posts (y ∷ []) in
      let number : m'.point.number ≡ m.point.number = ap (λ (z : MachineState). z.point.number) moved in
      record {
        posts = is.posts ++ y ∷ [];
        taken = subst (λ n. AreTaken most before n (is.posts ++ y ∷ []) p') (sym number) (one_taken most before m.point.number is.posts p p' x y is.taken some less received times refl);
        of = record {
          code = ap (λ (z : MachineState). z.code) moved ∙ is.of.code;
          plan = ap (λ (z : MachineState). z.plan) moved ∙ is.of.plan;
          actions = ap (λ (z : MachineState). z.placed) moved ∙ ap (λ l. l ++ y ∷ []) is.of.actions ∙ grown;
          begun = ap (λ (z : MachineState). z.begun) moved ∙ is.of.begun;
          under_way = under_way;
        };
        ordered = listed (job.actions ++ is.posts) is.ordered ∙ ap (placed_up_to 1000000) grown;
      }

  -- a post was received, and no more are taken
  pub one_lost : (m m' : MachineState) (p p' : Posts) (x : Post) → IsPosted most before job m p → 0 < p.left → p'.left ≡ 0
      → received_by p'.inbox ≡ received_by p.inbox ++ x ∷ [] → m' ≡ m → p'.ordered.actions ≡ p.ordered.actions → IsPosted most before job m' p'
  one_lost m m' p p' x is some none received same listed = subst (λ (z : MachineState). IsPosted most before job z p') (sym same) (record {
    posts = is.posts;
    taken = one_dropped most before m.point.number is.posts p p' x is.taken some none received;
    of = is.of;
    ordered = listed ∙ is.ordered;
  })

  -- nothing was received
  pub none_received : (m : MachineState) (p p' : Posts) → IsPosted most before job m p → p'.left ≡ p.left → received_by p'.inbox ≡ received_by p.inbox
      → times_empty p.inbox ≤ times_empty p'.inbox → p'.ordered.actions ≡ p.ordered.actions → IsPosted most before job m p'
  none_received m p p' is left received times listed = record {
    posts = is.posts;
    taken = none_taken most before m.point.number is.posts p p' is.taken left received times;
    of = is.of;
    ordered = listed ∙ is.ordered;
  }

  -- the controller went on
  unfoldable pub posted_on : (m m' : MachineState) (p : Posts) (is : IsPosted most before job m p) → m.point.number ≤ m'.point.number → IsOf (job_in job) (job.actions ++ is.posts) m'
      → (0 < p.left → times_empty p.inbox < 2 ^ 64 - 1 → times_empty before + m'.point.number ≤ times_empty p.inbox) → IsPosted most before job m' p
  posted_on m m' p is up of emptied = record {
    posts = is.posts;
    taken = taken_on most before m.point.number m'.point.number is.posts p is.taken up emptied;
    of = of;
    ordered = is.ordered;
  }

  -- what became of the posts, once all messages were made
  pub placed_all : (made : ℕ) (m : MachineState) (p : Posts) (after : Inbox) (is : IsPosted most before job m p) → m.point.number ≡ made → after ≡ p.inbox
      → ArePlaced most made before after is.posts
  placed_all made m p after is same inbox = all_placed most before made is.posts p after (subst (λ n. AreTaken most before n is.posts p) same is.taken) inbox

-- before any message
unfoldable pub nothing_placed : (most : ℕ) (before : Inbox) (job : JobState) (m : MachineState) (p : Posts) → p.left ≡ most → p.inbox ≡ before → m.point.number ≡ 0
    → IsOf (job_in job) job.actions m → p.ordered.actions ≡ placed_up_to 1000000 job.actions → IsPosted most before job m p
nothing_placed most before job m p left inbox first of ordered = record {
  posts = [];
  taken = subst (λ n. AreTaken most before n [] p) (sym first) (nothing_taken most before p left inbox);
  of = subst (λ (ps : List Placed). IsOf (job_in job) ps m) (sym (append-nil job.actions)) of;
  ordered = ordered ∙ ap (placed_up_to 1000000) (sym (append-nil job.actions));
}
