-- The figures of the channels, packet by packet.
use Rattle.std.proofs.Common.{◌≡◌, inl, inr, ℕ, zero, suc, ◌+◌, ◌-◌, ◌<◌, ◌≤◌, List, [], ◌∷◌, ◌++◌, length, reverse, Bool, true, false, Option, None, Some, refl, sym, ap, subst, ◌∙◌, append_assoc, arith}
use Rattle.std.specs.Prelude.{◌==◌, ◌&&◌, nat_eq, if◌then◌else◌}
use Rattle.std.specs.HashMap.{get}
use Rattle.std.proofs.lemmas.Bool.{cases_eq, eq-eqb, ne_eqb}
use Rattle.std.proofs.lemmas.List.{append-nil, map-append, map_push, reverse-append}
use Rattle.ch11_header.specs.declared.header.Header.{Header}
use Rattle.ch11_f1.specs.BodyReading.{Message, messages_in, ok_or_none}
use Rattle.ch11_layout.specs.Stamps.{Recorded, kind_of}
use Rattle.ch11_reader.specs.declared.packet.Packet.{Packet}
use Rattle.ch11_reader.specs.Recording.{Found, body_of, holds_messages}
use Rattle.ch11_reader.specs.Contents.{total_in}
use Rattle.ch11_stream.specs.Reading.{IsStep, Reading, last_found}
use Rattle.ch11_stream.proofs.Folding.{one_behind, total_reverse}
use Rattle.bench_select.specs.declared.selection.Selection.{Selection}
use Rattle.bench_select.specs.Selectors.{is_chosen}
use Rattle.bench_stat.specs.declared.channels.ChannelFigures.{ChannelFigures}
use Rattle.bench_stat.specs.declared.streaming.TallyByChannel.{TallyByChannel}
use Rattle.bench_stat.specs.declared.tally.Tally.{Tally}
use Rattle.bench_stat.specs.Chosen.{picked, chosen, history_of}
use Rattle.bench_stat.specs.Figures.{channels_below, figures_among, figures_of_channel, has_channel, headers, is_listed, statistics}
use Rattle.bench_stat.specs.Steps.{tally_of}
use Rattle.bench_stat.specs.Streaming.{AreTalliesOf, IsPacketBehind, tally_in, tally_or_none, with_figures}
use Rattle.bench_stat.proofs.Present.{at_channel, channel_absent, channel_present, of_other_channel, of_other_kind}

-- ---- one packet more

-- the selected messages of a packet, where it is of the channel
abbrev own : Selection → ℕ → List Found → Found → List Recorded
own s channel ps q = if q.header.channel == channel then picked s (kind_of q.header) channel (total_in ps) q.messages else []

chosen_both : (s : Selection) (channel before : ℕ) (ps qs : List Found) → chosen s channel before (ps ++ qs) ≡ chosen s channel before ps ++ chosen s channel (before + total_in ps) qs
chosen_both s channel before [] qs = let same : before ≡ before + 0 = omega arith in ap (λ (n : ℕ). chosen s channel n qs) same
chosen_both s channel before (p ∷ ps) qs =
    let mine = if p.header.channel == channel then picked s (kind_of p.header) channel before p.messages else [] in
    let next = before + length p.messages in
    let place : next + total_in ps ≡ before + total_in (p ∷ ps) = omega arith in
    ap (λ (l : List Recorded). mine ++ l) (chosen_both s channel next ps qs ∙ ap (λ (n : ℕ). chosen s channel next ps ++ chosen s channel n qs) place)
    ∙ sym (append_assoc mine (chosen s channel next ps) (chosen s channel (before + total_in (p ∷ ps)) qs))

pub history_more : (s : Selection) (channel : ℕ) (ps : List Found) (q : Found) → history_of s (ps ++ q ∷ []) channel ≡ reverse (own s channel ps q) ++ history_of s ps channel
history_more s channel ps q =
    let place : 0 + total_in ps ≡ total_in ps = omega arith in
    ap reverse (chosen_both s channel 0 ps (q ∷ []) ∙ ap (λ (n : ℕ). chosen s channel 0 ps ++ chosen s channel n (q ∷ [])) place ∙ ap (λ (l : List Recorded). chosen s channel 0 ps ++ l) (append-nil (own s channel ps q)))
    ∙ reverse-append (chosen s channel 0 ps) (own s channel ps q)

history_here : (s : Selection) (ps : List Found) (q : Found) → history_of s (ps ++ q ∷ []) q.header.channel ≡ reverse (picked s (kind_of q.header) q.header.channel (total_in ps) q.messages) ++ history_of s ps q.header.channel
history_here s ps q =
    history_more s q.header.channel ps q
    ∙ ap (λ (b : Bool). reverse (if b then picked s (kind_of q.header) q.header.channel (total_in ps) q.messages else []) ++ history_of s ps q.header.channel) (eq-eqb q.header.channel q.header.channel refl)

pub history_other : (s : Selection) (channel : ℕ) (ps : List Found) (q : Found) → (q.header.channel ≡ channel → ⊥) → history_of s (ps ++ q ∷ []) channel ≡ history_of s ps channel
history_other s channel ps q other =
    history_more s channel ps q ∙ ap (λ (b : Bool). reverse (if b then picked s (kind_of q.header) channel (total_in ps) q.messages else []) ++ history_of s ps channel) (ne_eqb q.header.channel channel other)

history_same : (s : Selection) (channel : ℕ) (ps : List Found) (q : Found) → q.messages ≡ [] → history_of s (ps ++ q ∷ []) channel ≡ history_of s ps channel
history_same s channel ps q none = history_more s channel ps q ∙ ap (λ (l : List Recorded). reverse l ++ history_of s ps channel) (go (q.header.channel == channel))
  where
    go : (b : Bool) → (if b then picked s (kind_of q.header) channel (total_in ps) q.messages else []) ≡ []
    go true = ap (picked s (kind_of q.header) channel (total_in ps)) none
    go false = refl

pub headers_more : (ps : List Found) (q : Found) → headers (ps ++ q ∷ []) ≡ headers ps ++ q.header ∷ []
headers_more ps q = map-append (λ (p : Found). p.header) ps (q ∷ [])

has_same : (channel : ℕ) (ps : List Found) (q : Found) → (has : has_channel channel (headers ps ++ q.header ∷ []) ≡ has_channel channel (headers ps)) → has_channel channel (headers (ps ++ q ∷ [])) ≡ has_channel channel (headers ps)
has_same channel ps q has = ap (has_channel channel) (headers_more ps q) ∙ has

-- ---- figures of a channel

tally_same : (s : Selection) (channel : ℕ) (ps : List Found) (q : Found) → has_channel channel (headers (ps ++ q ∷ [])) ≡ has_channel channel (headers ps) → history_of s (ps ++ q ∷ []) channel ≡ history_of s ps channel
    → tally_in s ps channel ≡ tally_in s (ps ++ q ∷ []) channel
tally_same s channel ps q has history =
    ap (λ (h : List Recorded). if is_listed s (headers ps) channel then Some (tally_of channel h) else None) (sym history)
    ∙ ap (λ (b : Bool). if is_chosen s.channel channel && b then Some (tally_of channel (history_of s (ps ++ q ∷ []) channel)) else None) (sym has)

tally_unchosen : (s : Selection) (channel : ℕ) (ps : List Found) → is_chosen s.channel channel ≡ false → tally_in s ps channel ≡ None
tally_unchosen s channel ps is = ap (λ (b : Bool). if b && has_channel channel (headers ps) then Some (tally_of channel (history_of s ps channel)) else None) is

tally_listed : (s : Selection) (channel : ℕ) (ps : List Found) → is_chosen s.channel channel ≡ true → has_channel channel (headers ps) ≡ true → tally_in s ps channel ≡ Some (tally_of channel (history_of s ps channel))
tally_listed s channel ps is has =
    ap (λ (b : Bool). if b && has_channel channel (headers ps) then Some (tally_of channel (history_of s ps channel)) else None) is
    ∙ ap (λ (b : Bool). if b then Some (tally_of channel (history_of s ps channel)) else None) has

tally_absent : (s : Selection) (channel : ℕ) (ps : List Found) → is_chosen s.channel channel ≡ true → has_channel channel (headers ps) ≡ false → tally_in s ps channel ≡ None
tally_absent s channel ps is has =
    ap (λ (b : Bool). if b && has_channel channel (headers ps) then Some (tally_of channel (history_of s ps channel)) else None) is
    ∙ ap (λ (b : Bool). if b then Some (tally_of channel (history_of s ps channel)) else None) has

-- ---- all channels

pub nothing_yet : (s : Selection) (t : TallyByChannel) → ((channel : ℕ) → get nat_eq t.channels channel ≡ None) → AreTalliesOf s [] t
nothing_yet s t empty = record { each = λ channel. empty channel ∙ sym (go (is_chosen s.channel channel) channel); above = λ channel past. empty channel; none = λ channel is. refl }
  where
    go : (b : Bool) (channel : ℕ) → (if b && false then Some (tally_of channel []) else None) ≡ None
    go true channel = refl
    go false channel = refl

none_more : (s : Selection) (ps : List Found) (q : Found) (t : TallyByChannel) → AreTalliesOf s ps t → (holds_messages q.header ≡ false → q.messages ≡ []) → (channel : ℕ) → has_channel channel (headers (ps ++ q ∷ [])) ≡ false
    → history_of s (ps ++ q ∷ []) channel ≡ []
none_more s ps q t are empty channel absent = elim (cases_eq q.header.channel channel) [
  | inl here ↦ elim (cases_eq q.header.kind 25) [
    | inl kind ↦ let there = at_channel channel (headers ps) q.header kind here in absurd (both (has_channel channel (headers (ps ++ q ∷ []))) absent (ap (has_channel channel) (headers_more ps q) ∙ there))
    | inr other ↦ history_same s channel ps q (empty (ne_eqb q.header.kind 25 other)) ∙ are.none channel (sym (has_same channel ps q (of_other_kind channel (headers ps) q.header other)) ∙ absent)
  ]
  | inr other ↦ history_other s channel ps q other ∙ are.none channel (sym (has_same channel ps q (of_other_channel channel (headers ps) q.header other)) ∙ absent)
]
  where
    both : (b : Bool) → b ≡ false → b ≡ true → ⊥
    both b absent present = absurd cc

-- a packet of another data type
pub passed_other : (s : Selection) (ps : List Found) (q : Found) (t : TallyByChannel) → AreTalliesOf s ps t → (holds_messages q.header ≡ false → q.messages ≡ []) → (q.header.kind ≡ 25 → ⊥) → AreTalliesOf s (ps ++ q ∷ []) t
passed_other s ps q t are empty other = record {
  each = λ channel.
      are.each channel
      ∙ tally_same s channel ps q (has_same channel ps q (of_other_kind channel (headers ps) q.header other)) (history_same s channel ps q (empty (ne_eqb q.header.kind 25 other)));
  above = are.above;
  none = none_more s ps q t are empty;
}

-- a packet of a channel that the selection isn't of
pub passed_channel : (s : Selection) (ps : List Found) (q : Found) (t : TallyByChannel) → AreTalliesOf s ps t → (holds_messages q.header ≡ false → q.messages ≡ []) → is_chosen s.channel q.header.channel ≡ false → AreTalliesOf s (ps ++ q ∷ []) t
passed_channel s ps q t are empty unchosen = record {
  each = λ channel. are.each channel ∙ elim (cases_eq q.header.channel channel) [
    | inl here ↦
        let is : is_chosen s.channel channel ≡ false = ap (is_chosen s.channel) (sym here) ∙ unchosen in
        tally_unchosen s channel ps is ∙ sym (tally_unchosen s channel (ps ++ q ∷ []) is)
    | inr other ↦ tally_same s channel ps q (has_same channel ps q (of_other_channel channel (headers ps) q.header other)) (history_other s channel ps q other)
  ];
  above = are.above;
  none = none_more s ps q t are empty;
}

-- the figures of a channel that the selection is of
pub begun : (s : Selection) (ps : List Found) (t : TallyByChannel) (channel : ℕ) → AreTalliesOf s ps t → is_chosen s.channel channel ≡ true → tally_or_none channel (get nat_eq t.channels channel) ≡ tally_of channel (history_of s ps channel)
begun s ps t channel are is = ap (tally_or_none channel) (are.each channel) ∙ go (has_channel channel (headers ps)) refl
  where
    go : (b : Bool) → has_channel channel (headers ps) ≡ b → tally_or_none channel (tally_in s ps channel) ≡ tally_of channel (history_of s ps channel)
    go true has = ap (tally_or_none channel) (tally_listed s channel ps is has)
    go false has = ap (tally_or_none channel) (tally_absent s channel ps is has) ∙ ap (tally_of channel) (sym (are.none channel has))

-- a packet whose messages were counted
pub counted : (s : Selection) (ps : List Found) (q : Found) (t next : TallyByChannel) (tally : Tally) → AreTalliesOf s ps t → (holds_messages q.header ≡ false → q.messages ≡ []) → q.header.kind ≡ 25 → is_chosen s.channel q.header.channel ≡ true
    → tally ≡ tally_of q.header.channel (reverse (picked s (kind_of q.header) q.header.channel (total_in ps) q.messages) ++ history_of s ps q.header.channel)
    → ((channel : ℕ) → get nat_eq next.channels channel ≡ (if q.header.channel == channel then Some tally else get nat_eq t.channels channel)) → t.end ≤ next.end → q.header.channel < next.end → AreTalliesOf s (ps ++ q ∷ []) next
counted s ps q t next tally are empty kind is one put kept reach = record {
  each = λ channel. elim (cases_eq q.header.channel channel) [
    | inl here ↦ subst (λ (k : ℕ). get nat_eq next.channels k ≡ tally_in s (ps ++ q ∷ []) k) here own_channel
    | inr other ↦
        put channel ∙ ap (λ (b : Bool). if b then Some tally else get nat_eq t.channels channel) (ne_eqb q.header.channel channel other) ∙ are.each channel
        ∙ tally_same s channel ps q (has_same channel ps q (of_other_channel channel (headers ps) q.header other)) (history_other s channel ps q other)
  ];
  above = λ channel past.
      let other : q.header.channel ≡ channel → ⊥ = λ same. omega (arith, same, past, reach) in
      put channel ∙ ap (λ (b : Bool). if b then Some tally else get nat_eq t.channels channel) (ne_eqb q.header.channel channel other) ∙ are.above channel (omega (arith, past, kept));
  none = none_more s ps q t are empty;
}
  where
    there : has_channel q.header.channel (headers (ps ++ q ∷ [])) ≡ true
    there = ap (has_channel q.header.channel) (headers_more ps q) ∙ at_channel q.header.channel (headers ps) q.header kind refl

    own_channel : get nat_eq next.channels q.header.channel ≡ tally_in s (ps ++ q ∷ []) q.header.channel
    own_channel =
        put q.header.channel ∙ ap (λ (b : Bool). if b then Some tally else get nat_eq t.channels q.header.channel) (eq-eqb q.header.channel q.header.channel refl)
        ∙ ap Some (one ∙ ap (tally_of q.header.channel) (sym (history_here s ps q))) ∙ sym (tally_listed s q.header.channel (ps ++ q ∷ []) is there)

pub packet_counted : (s : Selection) (ps : List Found) (q : Found) (p : Packet) (messages : List Message) (t next : TallyByChannel) (before after : Tally) → AreTalliesOf s ps t → IsPacketBehind ps q p messages
    → p.header.kind ≡ 25 → is_chosen s.channel p.header.channel ≡ true → before ≡ tally_or_none p.header.channel (get nat_eq t.channels p.header.channel)
    → ((history : List Recorded) → before ≡ tally_of p.header.channel history → after ≡ tally_of p.header.channel (reverse (picked s (kind_of p.header) p.header.channel p.before messages) ++ history))
    → ((channel : ℕ) → get nat_eq next.channels channel ≡ (if p.header.channel == channel then Some after else get nat_eq t.channels channel)) → t.end ≤ next.end → p.header.channel < next.end → AreTalliesOf s (ps ++ q ∷ []) next
packet_counted s ps q p messages t next before after are b kind is begins noted put kept reach =
    counted s ps q t next after are b.other (ap (λ (h : Header). h.kind) b.header ∙ kind) (ap (λ (h : Header). is_chosen s.channel h.channel) b.header ∙ is) one
    (λ channel. put channel ∙ ap (λ (h : Header). if h.channel == channel then Some after else get nat_eq t.channels channel) (sym b.header)) kept (omega (arith, reach, ap (λ (h : Header). h.channel) b.header))
  where
    base : after ≡ tally_of p.header.channel (reverse (picked s (kind_of p.header) p.header.channel p.before messages) ++ history_of s ps p.header.channel)
    base = noted (history_of s ps p.header.channel) (begins ∙ begun s ps t p.header.channel are is)

    one : after ≡ tally_of q.header.channel (reverse (picked s (kind_of q.header) q.header.channel (total_in ps) q.messages) ++ history_of s ps q.header.channel)
    one =
        base ∙ ap (λ (h : Header). tally_of h.channel (reverse (picked s (kind_of h) h.channel p.before messages) ++ history_of s ps h.channel)) (sym b.header)
        ∙ ap (λ (n : ℕ). tally_of q.header.channel (reverse (picked s (kind_of q.header) q.header.channel n messages) ++ history_of s ps q.header.channel)) b.before
        ∙ ap (λ (ms : List Message). tally_of q.header.channel (reverse (picked s (kind_of q.header) q.header.channel (total_in ps) ms) ++ history_of s ps q.header.channel)) (sym b.given)

pub packet_of_other_kind : (s : Selection) (ps : List Found) (q : Found) (p : Packet) (messages : List Message) (t : TallyByChannel) → AreTalliesOf s ps t → IsPacketBehind ps q p messages → (p.header.kind ≡ 25 → ⊥) → AreTalliesOf s (ps ++ q ∷ []) t
packet_of_other_kind s ps q p messages t are b other = passed_other s ps q t are b.other (λ e. other (ap (λ (h : Header). h.kind) (sym b.header) ∙ e))

pub packet_of_other_channel : (s : Selection) (ps : List Found) (q : Found) (p : Packet) (messages : List Message) (t : TallyByChannel) → AreTalliesOf s ps t → IsPacketBehind ps q p messages → is_chosen s.channel p.header.channel ≡ false
    → AreTalliesOf s (ps ++ q ∷ []) t
packet_of_other_channel s ps q p messages t are b unchosen = passed_channel s ps q t are b.other (ap (λ (h : Header). is_chosen s.channel h.channel) b.header ∙ unchosen)

-- ---- packets as they are read

-- the packet that was read of a file that is known
pub next_one : (before now : Reading) (p : Packet) (messages : List Message) (rest : List ℕ) → IsStep before now p → before.left ≡ Some rest → messages ≡ now.given → IsPacketBehind (reverse before.earlier) (last_found now p) p messages
next_one before now p messages rest s left are = record {
  header = refl;
  before = ap (λ (x : Packet). x.before) s.listed ∙ sym (total_reverse before.earlier);
  given = sym are;
  other = λ another. (s.read rest left).messages ∙ ap (λ (b : Bool). if b then ok_or_none (messages_in (body_of p.header rest)) else []) another;
}

-- the packets so far in their order, with one more
pub counted_on : (s : Selection) (before now : Reading) (p : Packet) (t : TallyByChannel) → IsStep before now p → AreTalliesOf s (reverse before.earlier ++ last_found now p ∷ []) t → AreTalliesOf s (reverse now.earlier) t
counted_on s before now p t step are = subst (λ (ps : List Found). AreTalliesOf s ps t) (sym (ap reverse step.entered ∙ one_behind (last_found now p) before.earlier)) are

-- ---- the channels that are listed

record IsListed (s : Selection) (ps : List Found) (channel : ℕ) (tally : Tally) : Type 0 where
  there : is_listed s (headers ps) channel ≡ true
  is : tally ≡ tally_of channel (history_of s ps channel)

pub more_figures : (s : Selection) (n : ℕ) (ps : List Found) (t : TallyByChannel) (figures : List ChannelFigures) (tally : Tally) → AreTalliesOf s ps t → get nat_eq t.channels n ≡ Some tally
    → figures ≡ figures_among s (channels_below s n (headers ps)) ps → figures ++ tally.figures ∷ [] ≡ figures_among s (channels_below s (n + 1) (headers ps)) ps
more_figures s n ps t figures tally are got is =
    ap (λ (x : ChannelFigures). figures ++ x ∷ []) (ap (λ (x : Tally). x.figures) listed.is) ∙ ap (λ (xs : List ChannelFigures). xs ++ figures_of_channel n (history_of s ps n) ∷ []) is
    ∙ sym (map_push (λ (channel : ℕ). figures_of_channel channel (history_of s ps channel)) (channels_below s n (headers ps)) n)
    ∙ ap (λ (cs : List ℕ). figures_among s cs ps) (sym (channel_present s n (headers ps) listed.there))
  where
    go : (b : Bool) → is_listed s (headers ps) n ≡ b → (if b then Some (tally_of n (history_of s ps n)) else None) ≡ Some tally → IsListed s ps n tally
    go true there has = record { there = there; is = cc }
    go false there has = absurd cc

    listed : IsListed s ps n tally
    listed = go (is_listed s (headers ps) n) refl (sym (are.each n) ∙ got)

pub same_figures : (s : Selection) (n : ℕ) (ps : List Found) (t : TallyByChannel) (figures : List ChannelFigures) → AreTalliesOf s ps t → get nat_eq t.channels n ≡ None
    → figures ≡ figures_among s (channels_below s n (headers ps)) ps → figures ≡ figures_among s (channels_below s (n + 1) (headers ps)) ps
same_figures s n ps t figures are got is = is ∙ ap (λ (cs : List ℕ). figures_among s cs ps) (sym (channel_absent s n (headers ps) (go (is_listed s (headers ps) n) refl (sym (are.each n) ∙ got))))
  where
    go : (b : Bool) → is_listed s (headers ps) n ≡ b → (if b then Some (tally_of n (history_of s ps n)) else None) ≡ None → is_listed s (headers ps) n ≡ false
    go true there has = absurd cc
    go false there has = there

pub next_figures : (s : Selection) (n : ℕ) (ps : List Found) (t : TallyByChannel) (figures more : List ChannelFigures) → AreTalliesOf s ps t → figures ≡ figures_among s (channels_below s n (headers ps)) ps
    → more ≡ with_figures (get nat_eq t.channels n) figures → more ≡ figures_among s (channels_below s (n + 1) (headers ps)) ps
next_figures s n ps t figures more are is with = with ∙ go (get nat_eq t.channels n) refl
  where
    go : (o : Option Tally) → get nat_eq t.channels n ≡ o → with_figures o figures ≡ figures_among s (channels_below s (n + 1) (headers ps)) ps
    go None got = same_figures s n ps t figures are got is
    go (Some tally) got = more_figures s n ps t figures tally are got is

-- from the end on there are no figures
rest_figures : (s : Selection) (n k : ℕ) (ps : List Found) (t : TallyByChannel) (figures : List ChannelFigures) → AreTalliesOf s ps t → t.end ≤ n → figures ≡ figures_among s (channels_below s n (headers ps)) ps
    → figures ≡ figures_among s (channels_below s (n + k) (headers ps)) ps
rest_figures s n zero ps t figures are past is = let same : n ≡ n + 0 = omega arith in is ∙ ap (λ (m : ℕ). figures_among s (channels_below s m (headers ps)) ps) same
rest_figures s n (suc k) ps t figures are past is =
    let next : n + k + 1 ≡ n + suc k = omega arith in
    same_figures s (n + k) ps t figures are (are.above (n + k) (omega (arith, past))) (rest_figures s n k ps t figures are past is) ∙ ap (λ (m : ℕ). figures_among s (channels_below s m (headers ps)) ps) next

pub all_figures : (s : Selection) (n : ℕ) (ps : List Found) (t : TallyByChannel) (figures : List ChannelFigures) → AreTalliesOf s ps t → t.end ≤ n → n ≤ 65536 → figures ≡ figures_among s (channels_below s n (headers ps)) ps
    → figures ≡ statistics s ps
all_figures s n ps t figures are past within is =
    let whole : n + (65536 - n) ≡ 65536 = omega (arith, within) in
    rest_figures s n (65536 - n) ps t figures are past is ∙ ap (λ (m : ℕ). figures_among s (channels_below s m (headers ps)) ps) whole
