use Rattle.std.proofs.Common.{◌≡◌, ◌≢◌, ◌+◌, ℕ, subst, List, ◌++◌, map, slice_get, Some, refl, sym, ap, ◌∙◌, arith}
use Rattle.std.specs.List.{AllByRecursion}
use Rattle.std.specs.VecDeque.{deque_capacity}
use Rattle.ch11_recording.specs.Items.{channel_of}
use Rattle.ch11_recording.specs.WrittenFile.{closing, closes}
use Rattle.bench_core.specs.Bench.{ChannelState}
use Rattle.bench_core.specs.World.{state_in}
use Rattle.bench_core.proofs.Fields.{front_somewhere, front_index, front_may, front_kept, few_packets, counts_one}
use Rattle.bench_core.proofs.world.World.take.Goals as goal

pub invariant_of-self-in_default-place_of : goal.invariant_of-self-in_default-place_of
invariant_of-self-in_default-place_of c =
    let w = c.self.inside in
    absurd (front_somewhere (deque_capacity w.queue) w.builders.items w.file.items w.packets (record { version = w.version; limit = w.limit }) w.prologue.value.items w.most w.channels.items w.capacity w.queue.items w.taken c.in-Some.item c.pop_front.new.self.items 0 c.in-Some.ensures.items c.self.invariant (subst (λ (n : ℕ). AllByRecursion (λ (l : ChannelState). l.channel ≢ n) w.channels.items) c.channel_of.ensures (subst (AllByRecursion (λ (l : ChannelState). l.channel ≢ c.channel_of.result)) c.deref.ensures.value c.in_default-place_of.ensures)))

pub returns-in_default-place_of-clause-ok : goal.returns-in_default-place_of-clause-ok
returns-in_default-place_of-clause-ok c =
    let w = c.self.inside in
    absurd (front_somewhere (deque_capacity w.queue) w.builders.items w.file.items w.packets (record { version = w.version; limit = w.limit }) w.prologue.value.items w.most w.channels.items w.capacity w.queue.items w.taken c.in-Some.item c.pop_front.new.self.items 0 c.in-Some.ensures.items c.self.invariant (subst (λ (n : ℕ). AllByRecursion (λ (l : ChannelState). l.channel ≢ n) w.channels.items) c.channel_of.ensures (subst (AllByRecursion (λ (l : ChannelState). l.channel ≢ c.channel_of.result)) c.deref.ensures.value c.in_default-place_of.ensures)))

pub index_mut-requires : goal.index_mut-requires
index_mut-requires c =
    let w = c.self.inside in
    let placed : slice_get (map (λ (l : ChannelState). l.channel) w.channels.items) c.in-Some-place_of.index ≡ Some (channel_of c.in-Some.item) =
    ap (λ (ls : List ChannelState). slice_get (map (λ (l : ChannelState). l.channel) ls) c.in-Some-place_of.index) (sym c.deref.ensures.value) ∙ c.in-Some-place_of.ensures ∙ ap (λ (n : ℕ). Some n) c.channel_of.ensures in
    let low = front_index (deque_capacity w.queue) w.builders.items w.file.items w.packets (record { version = w.version; limit = w.limit }) w.prologue.value.items w.most w.channels.items w.capacity w.queue.items w.taken c.in-Some.item c.pop_front.new.self.items c.in-Some-place_of.index c.in-Some.ensures.items c.self.invariant placed in
    omega (arith, low, w.builders.ok.0)

pub write-requires-clause-next : goal.write-requires-clause-next
write-requires-clause-next c =
    let w = c.self.inside in
    let placed : slice_get (map (λ (l : ChannelState). l.channel) w.channels.items) c.in-Some-place_of.index ≡ Some (channel_of c.in-Some.item) =
    ap (λ (ls : List ChannelState). slice_get (map (λ (l : ChannelState). l.channel) ls) c.in-Some-place_of.index) (sym c.deref.ensures.value) ∙ c.in-Some-place_of.ensures ∙ ap (λ (n : ℕ). Some n) c.channel_of.ensures in
    front_may (deque_capacity w.queue) w.builders.items w.file.items w.packets (record { version = w.version; limit = w.limit }) w.prologue.value.items w.most w.channels.items w.capacity w.queue.items w.taken c.in-Some.item c.pop_front.new.self.items c.in-Some-place_of.index c.in-Some.ensures.items c.self.invariant placed c.recording_goes_on.ensures c.file_is_packets.ensures.goes_on c.latest_is_last.ensures c.index_mut.result.now c.index_mut.result.now c.index_mut.ensures.value

pub overflow_add-self : goal.overflow_add-self
overflow_add-self c =
    let w = c.self.inside in
    let few = few_packets (deque_capacity w.queue) w.builders.items w.file.items w.packets (state_in w) c.self.invariant in
    let one = counts_one (closes c.index_mut.result.now c.in-Some.item) c.write.result c.write.ensures.count in
    omega (arith, few, one)

pub invariant_of-self-2 : goal.invariant_of-self-2
invariant_of-self-2 c =
    let w = c.self.inside in
    let placed : slice_get (map (λ (l : ChannelState). l.channel) w.channels.items) c.in-Some-place_of.index ≡ Some (channel_of c.in-Some.item) =
    ap (λ (ls : List ChannelState). slice_get (map (λ (l : ChannelState). l.channel) ls) c.in-Some-place_of.index) (sym c.deref.ensures.value) ∙ c.in-Some-place_of.ensures ∙ ap (λ (n : ℕ). Some n) c.channel_of.ensures in
    front_kept (deque_capacity w.queue) w.builders.items w.file.items w.packets (record { version = w.version; limit = w.limit }) w.prologue.value.items w.most w.channels.items w.capacity w.queue.items w.taken c.in-Some.item c.pop_front.new.self.items c.in-Some-place_of.index c.in-Some.ensures.items c.self.invariant placed c.recording_goes_on.ensures c.file_is_packets.ensures.goes_on c.latest_is_last.ensures c.index_mut.result.now c.index_mut.result.now c.write.new.builder (deque_capacity c.pop_front.new.self) _ _ _ c.pop_front.new.self.items _
    c.index_mut.ensures.value c.write.ensures.held c.pop_front.ensures.capacity refl
    (c.write.ensures.file ∙ ap (λ (bs : List ℕ). bs ++ closing c.index_mut.result.now c.in-Some.item) c.reserve.ensures.items)
    (ap (λ (n : ℕ). w.packets + n) c.write.ensures.count) refl
    c.put_behind.ensures
