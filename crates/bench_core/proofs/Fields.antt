-- The fields of a world after a step.
use Rattle.std.proofs.Common.{◌≡◌, ◌≢◌, ℕ, zero, suc, ◌+◌, ◌<◌, ◌≤◌, Bool, true, false, cond, ltb, List, [], ◌∷◌, ◌++◌, length, map, slice_get, slice_set, slice_index_or, Option, Some, None, refl, sym, ap, ◌∙◌, arith, subst}
use Rattle.std.specs.Option.{option_to_list}
use Rattle.std.specs.Prelude.{Result, Ok, Err, OnOk, OnErr}
use Rattle.std.specs.List.{AllByRecursion}
use Rattle.std.proofs.lemmas.List.{length-set, length-append}
use Rattle.bc_machine.specs.declared.placed.HostAction.{HostAction}
use Rattle.ch11_f1.specs.declared.Record.{Record}
use Rattle.ch11_builder.specs.Held.{Held, packet_of}
use Rattle.ch11_recording.specs.declared.item.Item.{Item}
use Rattle.ch11_recording.specs.Items.{channel_of}
use Rattle.ch11_recording.specs.Laws.{FileGoesOn, PacketsGoOn, LatestIsLast, IsItem}
use Rattle.ch11_recording.specs.WrittenFile.{Format, held_in, met, closes, closing, written_file, closed_by, closed_packets}
use Rattle.bench_core.specs.declared.step.Step.TheVariants.{Offer, Take, Post}
use Rattle.bench_core.specs.Bench.{ChannelState, Bench, has_room, with_end, offered, taken_from, with_post, channel_posts, posted, stepped}
use Rattle.bench_core.specs.Settled.{IsSettled}
use Rattle.bench_core.specs.Writing.{MayCome}
use Rattle.bench_core.specs.Channels.{after_next, queued_next, next_in, IsMade}
use Rattle.bench_core.specs.World.{WorldState, with_bench, IsReached, IsKeptWorld}
use Rattle.bench_core.proofs.Steps.{IsBench, numbers_in, one_of}
use Rattle.bench_core.proofs.Tidy.{Stands, IsTidy, packets_at_most}
use Rattle.bench_core.proofs.Coming.{holds, held_set, may_come}
use Rattle.bench_core.proofs.Offers.{all_set_to, set_same, offer_made, offer_is}
use Rattle.bench_settings.proofs.Lists.{map_at, map_kept, which}
use Rattle.bench_core.proofs.Worlds.{all_recorded, reached_bench, reached_tidy, reached_more}

abbrev pub state : Format → List ℕ → ℕ → List ChannelState → ℕ → List Item → List Item → WorldState
state f prologue most ls capacity queue taken = record {
  format = f;
  prologue = prologue;
  most = most;
  bench = record { channels = ls; capacity = capacity; queue = queue; taken = taken };
}

-- ---- an offer

pub offer_state : (f : Format) (prologue : List ℕ) (most : ℕ) (ls : List ChannelState) (capacity : ℕ) (queue taken : List Item) (i : ℕ) (old v : ChannelState) (more : List Item)
    → slice_get ls i ≡ Some old → v ≡ after_next old (next_in old) (ltb (length queue) capacity)
    → more ≡ queue ++ option_to_list (queued_next old (next_in old) (ltb (length queue) capacity))
    → state f prologue most (slice_set ls i v) capacity more taken
    ≡ with_bench (state f prologue most ls capacity queue taken) (offered i (state f prologue most ls capacity queue taken).bench)
offer_state f prologue most ls capacity queue taken i old v more at is queued =
    let b : Bench = record { channels = ls; capacity = capacity; queue = queue; taken = taken } in
    let new : ChannelState = after_next old (next_in old) (ltb (length queue) capacity) in
    ap (λ (l : ChannelState). record { format = f; prologue = prologue; most = most; bench = record { channels = slice_set ls i l; capacity = capacity; queue = more; taken = taken } }) is
    ∙ ap (λ (q : List Item). record { format = f; prologue = prologue; most = most; bench = record { channels = slice_set ls i new; capacity = capacity; queue = q; taken = taken } }) queued
    ∙ ap (λ (c : Bench). record { format = f; prologue = prologue; most = most; bench = c }) (offer_is i b old at)

next_channel : (l : ChannelState) (next : Option Record) (room : Bool) → (after_next l next room).channel ≡ l.channel
next_channel l (Some r) room = refl
next_channel l None room = go _
  where
    go : (b : Bool) → (cond b l (with_end l)).channel ≡ l.channel
    go true = refl
    go false = refl

reached_offer : (b : Bench) (i : ℕ) → IsReached b → IsReached (offered i b)
unfolding stepped
reached_offer b i r = reached_more b (Offer i) r

module _ (slots : ℕ) (builders : List Held) (bytes : List ℕ) (count : ℕ) where
  pub offer_kept : (w : WorldState) (i : ℕ) (l : ChannelState) → slice_get w.bench.channels i ≡ Some l → IsMade (after_next l (next_in l) (has_room w.bench))
      → IsKeptWorld slots builders bytes count w → IsKeptWorld slots builders bytes count (with_bench w (offered i w.bench))
  offer_kept w i l at made is =
      let new : ChannelState = after_next l (next_in l) (has_room w.bench) in
      let goes : offer_made i w.bench new (queued_next l (next_in l) (has_room w.bench)) ≡ offered i w.bench = offer_is i w.bench l at in
      subst (λ (b : Bench). IsKeptWorld slots builders bytes count (with_bench w b)) goes (record {
        reached = subst IsReached (sym goes) (reached_offer w.bench i is.reached);
        made = all_set_to IsMade w.bench.channels i new is.made made;
        format = is.format;
        prologue = is.prologue;
        held = is.held ∙ sym (map_kept (λ (k : ChannelState). held_in w.format k.channel w.bench.taken) w.bench.channels i l new at
            (ap (λ (c : ℕ). held_in w.format c w.bench.taken) (next_channel l (next_in l) (has_room w.bench))));
        file = is.file;
        packets = is.packets;
        few = omega (arith, length-set w.bench.channels i new, is.few);
        room = is.room;
      })

-- ---- a take

one_closed : (h : Held) (x : Item) (b : Bool) → length (cond b (packet_of h ∷ []) []) ≡ cond b 1 0
one_closed h x true = refl
one_closed h x false = refl

reached_take : (b : Bench) → IsReached b → IsReached (taken_from b.queue b)
unfolding stepped
reached_take b r = reached_more b Take r

abbrev pub took : Bench → Item → List Item → Bench
took b x behind = record { channels = b.channels; capacity = b.capacity; queue = behind; taken = b.taken ++ x ∷ [] }

pub took_is : (b : Bench) (x : Item) (behind : List Item) → b.queue ≡ x ∷ behind → took b x behind ≡ taken_from b.queue b
took_is b x behind at = ap (λ (q : List Item). taken_from q b) (sym at)

module _ (goes : FileGoesOn) (more : PacketsGoOn) (latest : LatestIsLast) (slots : ℕ) (builders : List Held) (bytes : List ℕ) (count : ℕ) where
  pub take_kept : (w : WorldState) (x : Item) (behind : List Item) (i : ℕ) (l : ChannelState) (h k : Held) → w.bench.queue ≡ x ∷ behind → slice_get w.bench.channels i ≡ Some l → channel_of x ≡ l.channel
      → h ≡ held_in w.format l.channel w.bench.taken → k ≡ met h x → IsKeptWorld slots builders bytes count w
      → IsKeptWorld slots (slice_set builders i k) (bytes ++ closing h x) (count + cond (closes h x) 1 0) (with_bench w (took w.bench x behind))
  take_kept w x behind i l h k at here of holding next is =
      let f : Format = w.format in
      let items : List Item = w.bench.taken in
      let own : held_in f (channel_of x) items ≡ h = ap (λ (c : ℕ). held_in f c items) of ∙ sym holding in
      record {
        reached = subst IsReached (sym (took_is w.bench x behind at)) (reached_take w.bench is.reached);
        made = is.made;
        format = is.format;
        prologue = is.prologue;
        held = ap (λ (hs : List Held). slice_set hs i k) is.held
            ∙ ap (slice_set (holds f items w.bench.channels) i) (next ∙ ap (λ (y : Held). met y x) holding)
            ∙ held_set f items x w.bench.channels i l (reached_bench w.bench is.reached).distinct here of;
        file = ap (λ (bs : List ℕ). bs ++ closing h x) is.file
            ∙ ap (λ (y : Held). written_file f w.prologue items ++ closing y x) (sym own)
            ∙ sym (goes f w.prologue items x);
        packets =
            let all : closed_packets f (items ++ x ∷ []) ≡ closed_packets f items ++ closed_by h x = more f items x ∙ ap (λ (y : Held). closed_packets f items ++ closed_by y x) own in
            omega (arith, is.packets, ap (λ (ps : List (List ℕ)). length ps) all, length-append (closed_packets f items) (closed_by h x), one_closed h x (closes h x));
        few = is.few;
        room = is.room;
      }

  item_front : (xs ys : List Item) (x : Item) → AllByRecursion IsItem (xs ++ x ∷ ys) → IsItem x
  item_front [] ys x all = all.0
  item_front (y ∷ xs) ys x all = item_front xs ys x all.1

  settled_of : (b : Bench) (l : ChannelState) (i : ℕ) → slice_get b.channels i ≡ Some l → IsBench b → IsSettled b l
  settled_of b l i at is = (one_of _ b.channels i l at is.channels).settled

  pub take_may : (w : WorldState) (x : Item) (behind : List Item) (i : ℕ) (l : ChannelState) (h : Held) → w.bench.queue ≡ x ∷ behind → slice_get w.bench.channels i ≡ Some l → channel_of x ≡ l.channel
      → h ≡ held_in w.format l.channel w.bench.taken → IsKeptWorld slots builders bytes count w → MayCome h x
  take_may w x behind i l h at here of holding is =
      let bench : IsBench w.bench = reached_bench w.bench is.reached in
      let items : AllByRecursion IsItem (w.bench.taken ++ x ∷ behind) = subst (λ (q : List Item). AllByRecursion IsItem (w.bench.taken ++ q)) at (bench.items (all_recorded w.bench.channels is.made)) in
      subst (λ (y : Held). MayCome y x) (sym holding)
      (may_come latest w.format w.bench l x behind at of (settled_of w.bench l i here bench) (item_front w.bench.taken behind x items))

-- ---- where a channel stands

pub got : {X : Type 0} (xs : List X) (i : ℕ) (x d : X) → slice_get xs i ≡ Some x → slice_index_or xs i d ≡ x
got [] i x d at = absurd cc
got (y ∷ xs) zero x d at = cc
got (y ∷ xs) (suc i) x d at = got xs i x d at

pub nowhere : (ls : List ChannelState) (c i : ℕ) → AllByRecursion (λ (l : ChannelState). l.channel ≢ c) ls → slice_get (numbers_in ls) i ≡ Some c → ⊥
nowhere [] c i all at = absurd cc
nowhere (l ∷ ls) c zero all at = let same : l.channel ≡ c = cc in all.0 same
nowhere (l ∷ ls) c (suc i) all at = nowhere ls c i all.1 at

pub never_nowhere : (w : WorldState) (ls : List ChannelState) (x : Item) (behind : List Item) → w.bench.channels ≡ ls → w.bench.queue ≡ x ∷ behind → IsReached w.bench
    → AllByRecursion (λ (l : ChannelState). l.channel ≢ channel_of x) ls → ⊥
never_nowhere w ls x behind channels at reached all =
    let tidy : IsTidy w.bench = reached_tidy w.bench reached in
    let known : AllByRecursion (λ y. Stands (channel_of y) (numbers_in w.bench.channels)) (x ∷ behind) = subst (AllByRecursion (λ y. Stands (channel_of y) (numbers_in w.bench.channels))) at tidy.known in
    nowhere ls (channel_of x) known.0.0 all (ap (λ (ls : List ChannelState). slice_get (numbers_in ls) known.0.0) (sym channels) ∙ known.0.1)

pub few_packets : (slots : ℕ) (builders : List Held) (bytes : List ℕ) (count : ℕ) (w : WorldState) → IsKeptWorld slots builders bytes count w → count ≤ 32000032
few_packets slots builders bytes count w is =
    let most = packets_at_most w.format w.bench (reached_tidy w.bench is.reached) is.made is.few in omega (arith, is.packets, most)

-- ---- an offer that may fail

module _ {U E : Type 0} (f : Format) (prologue : List ℕ) (most : ℕ) (ls : List ChannelState) (capacity : ℕ) (queue taken : List Item) (i : ℕ) (old v : ChannelState) (more : List Item) (at : slice_get ls i ≡ Some old) where
  pub offer_done : (r : Result U E) (now : WorldState) → state f prologue most ls capacity queue taken ≡ now
      → OnOk r (v ≡ after_next old (next_in old) (ltb (length queue) capacity))
      → OnOk r (more ≡ queue ++ option_to_list (queued_next old (next_in old) (ltb (length queue) capacity)))
      → OnOk r (state f prologue most (slice_set ls i v) capacity more taken ≡ with_bench now (offered i now.bench))
  offer_done (Ok u) now view channel items =
      offer_state f prologue most ls capacity queue taken i old v more at channel items ∙ ap (λ (w : WorldState). with_bench w (offered i w.bench)) view
  offer_done (Err e) now view channel items = tt

  pub offer_keeps : (r : Result U E) (slots : ℕ) (builders : List Held) (bytes : List ℕ) (count after : ℕ) → after ≡ slots
      → OnOk r (v ≡ after_next old (next_in old) (ltb (length queue) capacity))
      → OnOk r (more ≡ queue ++ option_to_list (queued_next old (next_in old) (ltb (length queue) capacity)))
      → OnOk r (IsMade v) → OnErr r (v ≡ old) → OnErr r (more ≡ queue)
      → IsKeptWorld slots builders bytes count (state f prologue most ls capacity queue taken) → IsKeptWorld after builders bytes count (state f prologue most (slice_set ls i v) capacity more taken)
  offer_keeps (Ok u) slots builders bytes count after room channel items made one none is =
      let w : WorldState = state f prologue most ls capacity queue taken in
      subst (λ (k : ℕ). IsKeptWorld k builders bytes count (state f prologue most (slice_set ls i v) capacity more taken)) (sym room)
      (subst (IsKeptWorld slots builders bytes count) (sym (offer_state f prologue most ls capacity queue taken i old v more at channel items))
      (offer_kept slots builders bytes count w i old at (subst IsMade channel made) is))
  offer_keeps (Err e) slots builders bytes count after room channel items made one none is =
      let channels_same : slice_set ls i v ≡ ls = ap (slice_set ls i) one ∙ set_same ls i old at in
      subst (λ (k : ℕ). IsKeptWorld k builders bytes count (state f prologue most (slice_set ls i v) capacity more taken)) (sym room)
      (subst (λ (bs : List ChannelState). IsKeptWorld slots builders bytes count (state f prologue most bs capacity more taken)) (sym channels_same)
      (subst (λ (q : List Item). IsKeptWorld slots builders bytes count (state f prologue most ls capacity q taken)) (sym none) is))

-- ---- a post

reached_post : (b : Bench) (i : ℕ) (action : HostAction) → IsReached b → IsReached (posted i action b)
unfolding stepped
reached_post b i action r = reached_more b (Post i action) r

module _ (i : ℕ) (action : HostAction) where
  post_is : (b : Bench) (l : ChannelState) → slice_get b.channels i ≡ Some l
      → ◌≡◌ {A = Bench} (record { channels = slice_set b.channels i (with_post l action); capacity = b.capacity; queue = b.queue; taken = b.taken }) (posted i action b)
  post_is b l at = ap (λ (o : Option ChannelState). channel_posts i o action b) (sym at)

  post_kept : (slots : ℕ) (builders : List Held) (bytes : List ℕ) (count : ℕ) (w : WorldState) (l : ChannelState) → slice_get w.bench.channels i ≡ Some l → IsMade (with_post l action)
      → IsKeptWorld slots builders bytes count w → IsKeptWorld slots builders bytes count (with_bench w (posted i action w.bench))
  post_kept slots builders bytes count w l at made is =
      let new : ChannelState = with_post l action in
      subst (λ (b : Bench). IsKeptWorld slots builders bytes count (with_bench w b)) (post_is w.bench l at) (record {
        reached = subst IsReached (sym (post_is w.bench l at)) (reached_post w.bench i action is.reached);
        made = all_set_to IsMade w.bench.channels i new is.made made;
        format = is.format;
        prologue = is.prologue;
        held = is.held ∙ sym (map_kept (λ (k : ChannelState). held_in w.format k.channel w.bench.taken) w.bench.channels i l new at refl);
        file = is.file;
        packets = is.packets;
        few = omega (arith, length-set w.bench.channels i new, is.few);
        room = is.room;
      })

  module _ (f : Format) (prologue : List ℕ) (most : ℕ) (ls : List ChannelState) (capacity : ℕ) (queue taken : List Item) (old v : ChannelState) (at : slice_get ls i ≡ Some old) where
    post_state : v ≡ with_post old action
        → state f prologue most (slice_set ls i v) capacity queue taken ≡ with_bench (state f prologue most ls capacity queue taken) (posted i action (state f prologue most ls capacity queue taken).bench)
    post_state is =
        let b : Bench = record { channels = ls; capacity = capacity; queue = queue; taken = taken } in
        ap (λ (l : ChannelState). state f prologue most (slice_set ls i l) capacity queue taken) is
        ∙ ap (λ (c : Bench). record { format = f; prologue = prologue; most = most; bench = c }) (post_is b old at)

    pub post_done : {U E : Type 0} (r : Result U E) (now : WorldState) → state f prologue most ls capacity queue taken ≡ now → OnOk r (v ≡ with_post old action)
        → OnOk r (state f prologue most (slice_set ls i v) capacity queue taken ≡ with_bench now (posted i action now.bench))
    post_done (Ok u) now view is = post_state is ∙ ap (λ (w : WorldState). with_bench w (posted i action w.bench)) view
    post_done (Err e) now view is = tt

    pub post_failed : {U E : Type 0} (r : Result U E) (now : WorldState) → state f prologue most ls capacity queue taken ≡ now → OnErr r (v ≡ old)
        → OnErr r (state f prologue most (slice_set ls i v) capacity queue taken ≡ now)
    post_failed (Ok u) now view one = tt
    post_failed (Err e) now view one =
        ap (λ (l : ChannelState). state f prologue most (slice_set ls i l) capacity queue taken) one
        ∙ ap (λ (xs : List ChannelState). state f prologue most xs capacity queue taken) (set_same ls i old at) ∙ view

    pub post_keeps : {U E : Type 0} (r : Result U E) (slots : ℕ) (builders : List Held) (bytes : List ℕ) (count : ℕ) → OnOk r (v ≡ with_post old action) → OnOk r (IsMade v) → OnErr r (v ≡ old)
        → IsKeptWorld slots builders bytes count (state f prologue most ls capacity queue taken) → IsKeptWorld slots builders bytes count (state f prologue most (slice_set ls i v) capacity queue taken)
    post_keeps (Ok u) slots builders bytes count is made one kept =
        subst (IsKeptWorld slots builders bytes count) (sym (post_state is))
        (post_kept slots builders bytes count (state f prologue most ls capacity queue taken) old at (subst IsMade is made) kept)
    post_keeps (Err e) slots builders bytes count is made one kept =
        subst (λ (xs : List ChannelState). IsKeptWorld slots builders bytes count (state f prologue most xs capacity queue taken))
        (sym (ap (slice_set ls i) one ∙ set_same ls i old at)) kept

-- ---- what stands in front is taken

is_within : {X : Type 0} (xs : List X) (i : ℕ) (x : X) → slice_get xs i ≡ Some x → i < length xs
is_within [] i x at = absurd cc
is_within (y ∷ xs) zero x at = omega arith
is_within (y ∷ xs) (suc i) x at = let rest = is_within xs i x at in omega (arith, rest)

one_most : (b : Bool) → cond b 1 0 ≤ 1
one_most true = omega arith
one_most false = omega arith

pub counts_one : (b : Bool) (n : ℕ) → n ≡ cond b 1 0 → n ≤ 1
counts_one b n is = omega (arith, is, one_most b)

pub front_done : (f : Format) (prologue : List ℕ) (most : ℕ) (ls : List ChannelState) (capacity : ℕ) (queue taken : List Item) (x : Item) (behind later all : List Item) (now : WorldState)
    → queue ≡ x ∷ behind → state f prologue most ls capacity queue taken ≡ now → later ≡ behind → all ≡ taken ++ x ∷ []
    → state f prologue most ls capacity later all ≡ with_bench now (taken_from now.bench.queue now.bench)
front_done f prologue most ls capacity queue taken x behind later all now at view rest more =
    let b : Bench = record { channels = ls; capacity = capacity; queue = queue; taken = taken } in
    ap (λ (q : List Item). state f prologue most ls capacity q all) rest
    ∙ ap (λ (xs : List Item). state f prologue most ls capacity behind xs) more
    ∙ ap (λ (c : Bench). record { format = f; prologue = prologue; most = most; bench = c }) (took_is b x behind at)
    ∙ ap (λ (w : WorldState). with_bench w (taken_from w.bench.queue w.bench)) view

module _ (slots : ℕ) (builders : List Held) (bytes : List ℕ) (count : ℕ) (f : Format) (prologue : List ℕ) (most : ℕ) (ls : List ChannelState) (capacity : ℕ) (queue taken : List Item) (x : Item) (behind : List Item) (i : ℕ)
    (at : queue ≡ x ∷ behind) (is : IsKeptWorld slots builders bytes count (state f prologue most ls capacity queue taken)) where
  pub front_somewhere : AllByRecursion (λ (l : ChannelState). l.channel ≢ channel_of x) ls → ⊥
  front_somewhere none = never_nowhere (state f prologue most ls capacity queue taken) ls x behind refl at is.reached none

  module _ (placed : slice_get (map (λ (l : ChannelState). l.channel) ls) i ≡ Some (channel_of x)) where
    its_builder : (h d : Held) (l : ChannelState) → slice_get ls i ≡ Some l → h ≡ slice_index_or builders i d → h ≡ held_in f l.channel taken
    its_builder h d l here from =
        from ∙ ap (λ (hs : List Held). slice_index_or hs i d) is.held
        ∙ got (holds f taken ls) i (held_in f l.channel taken) d (map_at (λ (k : ChannelState). held_in f k.channel taken) ls i l here)

    pub front_index : i < length builders
    front_index =
        let found = which (λ (l : ChannelState). l.channel) ls i (channel_of x) placed in
        subst (λ (hs : List Held). i < length hs) (sym is.held)
        (is_within (holds f taken ls) i (held_in f found.0.channel taken) (map_at (λ (k : ChannelState). held_in f k.channel taken) ls i found.0 found.1))

    pub front_may : FileGoesOn → PacketsGoOn → LatestIsLast → (h d : Held) → h ≡ slice_index_or builders i d → MayCome h x
    front_may goes more latest h d from =
        let found = which (λ (l : ChannelState). l.channel) ls i (channel_of x) placed in
        take_may goes more latest slots builders bytes count (state f prologue most ls capacity queue taken) x behind i found.0 h at found.1 found.2 (its_builder h d found.0 found.1 from) is

    pub front_kept : FileGoesOn → PacketsGoOn → LatestIsLast → (h d k : Held) (room : ℕ) (hs : List Held) (file : List ℕ) (packets : ℕ) (later all : List Item) → h ≡ slice_index_or builders i d → k ≡ met h x
        → room ≡ slots → hs ≡ slice_set builders i k → file ≡ bytes ++ closing h x → packets ≡ count + cond (closes h x) 1 0 → later ≡ behind → all ≡ taken ++ x ∷ []
        → IsKeptWorld room hs file packets (state f prologue most ls capacity later all)
    front_kept goes more latest h d k room hs file packets later all from next same_room set written counted rest items =
        let found = which (λ (l : ChannelState). l.channel) ls i (channel_of x) placed in
        let kept : IsKeptWorld slots (slice_set builders i k) (bytes ++ closing h x) (count + cond (closes h x) 1 0) (state f prologue most ls capacity behind (taken ++ x ∷ [])) =
        take_kept goes more latest slots builders bytes count (state f prologue most ls capacity queue taken) x behind i found.0 h k at found.1 found.2 (its_builder h d found.0 found.1 from) next is in
        subst (λ (n : ℕ). IsKeptWorld n hs file packets (state f prologue most ls capacity later all)) (sym same_room)
        (subst (λ (ks : List Held). IsKeptWorld slots ks file packets (state f prologue most ls capacity later all)) (sym set)
        (subst (λ (bs : List ℕ). IsKeptWorld slots (slice_set builders i k) bs packets (state f prologue most ls capacity later all)) (sym written)
        (subst (λ (n : ℕ). IsKeptWorld slots (slice_set builders i k) (bytes ++ closing h x) n (state f prologue most ls capacity later all)) (sym counted)
        (subst (λ (q : List Item). IsKeptWorld slots (slice_set builders i k) (bytes ++ closing h x) (count + cond (closes h x) 1 0) (state f prologue most ls capacity q all)) (sym rest)
        (subst (λ (xs : List Item). IsKeptWorld slots (slice_set builders i k) (bytes ++ closing h x) (count + cond (closes h x) 1 0) (state f prologue most ls capacity behind xs)) (sym items) kept)))))
