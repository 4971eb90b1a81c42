-- What is told of channels, packet by packet.
use Rattle.std.proofs.Common.{◌≡◌, inl, inr, ℕ, ◌+◌, ◌-◌, ◌<◌, ◌≤◌, ◌^◌, List, [], ◌∷◌, ◌++◌, length, reverse, Bool, true, false, cond, Option, None, Some, refl, sym, ap, subst, ◌∙◌, append_assoc, arith}
use Rattle.std.specs.Prelude.{◌==◌, ◌||◌, ◌&&◌, nat_eq}
use Rattle.std.specs.HashMap.{get}
use Rattle.std.specs.List.{filter}
use Rattle.std.specs.Option.{is_some}
use Rattle.std.proofs.lemmas.Bool.{cases_eq, eq-eqb, ne_eqb}
use Rattle.std.proofs.lemmas.List.{append-nil, length-append, reverse-append, reverse-reverse, length-reverse}
use Rattle.std.proofs.lemmas.List.Elements.{filter-append}
use Rattle.std.proofs.lemmas.List.Folds.{list_any-append}
use Rattle.std.proofs.lemmas.List.Sums.{count_by-le-length, length-filter}
use Rattle.ch11_header.specs.Flags.{has_overflow}
use Rattle.ch11_f1.specs.BodyReading.{Message}
use Rattle.ch11_layout.specs.Stamps.{Recorded, kind_of}
use Rattle.ch11_reader.specs.declared.packet.Packet.{Packet}
use Rattle.ch11_reader.specs.Listing.{listed_behind, listing_behind, listing}
use Rattle.ch11_reader.specs.Recording.{Found}
use Rattle.ch11_stream.specs.Reading.{IsStep, Reading, last_found}
use Rattle.ch11_stream.proofs.Folding.{one_behind}
use Rattle.bench_select.specs.declared.selection.Selection.{Selection}
use Rattle.bench_stat.specs.declared.channels.ChannelFigures.{ChannelFigures}
use Rattle.bench_stat.specs.declared.following_packets.ToldChannels.{ToldChannels}
use Rattle.bench_stat.specs.declared.losses.Losses.{Losses}
use Rattle.bench_stat.specs.declared.shown.Shown.{Shown}
use Rattle.bench_stat.specs.declared.told.Told.{Told}
use Rattle.bench_stat.specs.Chosen.{history_of, picked}
use Rattle.bench_stat.specs.Details.{jumps, losses_of, overflows}
use Rattle.ch11_reader.specs.Contents.{capped}
use Rattle.bench_stat.specs.Figures.{one_if}
use Rattle.bench_stat.specs.Told.{AreTold, IsFollowed, IsListedBehind, IsTold, has_figures}
use Rattle.bench_stat.proofs.Counted.{counted_here, passed_elsewhere}
use Rattle.bench_stat.proofs.Streamed.{next_one}

-- ---- what packets say

one_more : (p : Packet → Bool) (xs : List Packet) (x : Packet) → length (filter p (xs ++ x ∷ [])) ≡ length (filter p xs) + one_if (p x)
one_more p xs x = ap length (filter-append p xs (x ∷ [])) ∙ length-append (filter p xs) (filter p (x ∷ [])) ∙ ap (λ (n : ℕ). length (filter p xs) + n) (one (p x))
  where
    one : (b : Bool) → length (cond b (x ∷ []) []) ≡ one_if b
    one true = refl
    one false = refl

no_more : (p : Packet → Bool) (xs : List Packet) (x : Packet) → p x ≡ false → length (filter p (xs ++ x ∷ [])) ≡ length (filter p xs)
no_more p xs x is = one_more p xs x ∙ ap (λ (b : Bool). length (filter p xs) + one_if b) is ∙ none
  where
    none : length (filter p xs) + 0 ≡ length (filter p xs)
    none = omega arith

at_most_one : (b : Bool) → one_if b ≤ 1
at_most_one true = omega arith
at_most_one false = omega arith

not_capped : (n m : ℕ) → n < 2 ^ 64 - 1 → m ≤ 1 → capped (n + m) ≡ n + m
not_capped n m few one = omega (arith, few, one)

one_counted : (p : Packet → Bool) (xs : List Packet) (x : Packet) (n : ℕ) → length xs < 2 ^ 64 - 1 → n ≡ length (filter p xs) → capped (n + one_if (p x)) ≡ length (filter p (xs ++ x ∷ []))
one_counted p xs x n few is = not_capped n (one_if (p x)) fewer (at_most_one (p x)) ∙ ap (λ (k : ℕ). k + one_if (p x)) is ∙ sym (one_more p xs x)
  where
    fewer : n < 2 ^ 64 - 1
    fewer = omega (arith, few, is, length-filter p xs, count_by-le-length p xs)

abbrev pub losses : ℕ → ℕ → Losses
losses n m = record { overflows = n; jumps = m }

pub losses_more : (channel : ℕ) (packets : List Packet) (p : Packet) (old : Losses) → length packets < 2 ^ 64 - 1 → old ≡ losses_of channel packets
    → losses (capped (old.overflows + one_if (overflows channel p))) (capped (old.jumps + one_if (jumps channel p))) ≡ losses_of channel (packets ++ p ∷ [])
losses_more channel packets p old few is =
    ap (λ (n : ℕ). losses n (capped (old.jumps + one_if (jumps channel p)))) (one_counted (overflows channel) packets p old.overflows few (ap (λ (l : Losses). l.overflows) is))
    ∙ ap (losses (length (filter (overflows channel) (packets ++ p ∷ [])))) (one_counted (jumps channel) packets p old.jumps few (ap (λ (l : Losses). l.jumps) is))

-- ---- the listing

listing_more : (earlier ps : List Found) (q : Found) → listing_behind earlier (ps ++ q ∷ []) ≡ listing_behind earlier ps ++ listed_behind (reverse ps ++ earlier) q ∷ []
listing_more earlier [] q = refl
listing_more earlier (p ∷ ps) q = ap (λ (es : List Packet). listed_behind earlier p ∷ es) (listing_more (p ∷ earlier) ps q ∙ ap (λ (fs : List Found). listing_behind (p ∷ earlier) ps ++ listed_behind fs q ∷ []) same)
  where
    same : reverse ps ++ (p ∷ earlier) ≡ reverse (p ∷ ps) ++ earlier
    same = sym (ap (λ (l : List Found). l ++ earlier) (reverse-append (p ∷ []) ps) ∙ append_assoc (reverse ps) (p ∷ []) earlier)

listing_one : (ps : List Found) (q : Found) (p : Packet) → p ≡ listed_behind (reverse ps) q → listing (ps ++ q ∷ []) ≡ listing ps ++ p ∷ []
listing_one ps q p is =
    listing_more [] ps q ∙ ap (λ (fs : List Found). listing ps ++ listed_behind fs q ∷ []) (append-nil (reverse ps)) ∙ ap (λ (x : Packet). listing ps ++ x ∷ []) (sym is)

length_listing : (earlier ps : List Found) → length (listing_behind earlier ps) ≡ length ps
length_listing earlier [] = refl
length_listing earlier (p ∷ ps) = omega (arith, length_listing (p ∷ earlier) ps)

few_listed : (ps : List Found) → length ps < 2 ^ 64 - 1 → length (listing ps) < 2 ^ 64 - 1
few_listed ps few = omega (arith, few, length_listing [] ps)

losses_elsewhere : (channel : ℕ) (ps : List Found) (q : Found) (p : Packet) → p ≡ listed_behind (reverse ps) q → (p.header.channel ≡ channel → ⊥) → losses_of channel (listing (ps ++ q ∷ [])) ≡ losses_of channel (listing ps)
losses_elsewhere channel ps q p is other =
    ap (losses_of channel) (listing_one ps q p is)
    ∙ ap (λ (n : ℕ). losses n (length (filter (jumps channel) (listing ps ++ p ∷ [])))) (no_more (overflows channel) (listing ps) p (ap (λ (b : Bool). b && has_overflow p.header) differs))
    ∙ ap (losses (length (filter (overflows channel) (listing ps)))) (no_more (jumps channel) (listing ps) p (ap (λ (b : Bool). b && p.sequence_jump) differs))
  where
    differs : (p.header.channel == channel) ≡ false
    differs = ne_eqb p.header.channel channel other

-- ---- one channel

-- a packet of another channel
told_elsewhere : (shown : Shown) (s : Selection) (channel : ℕ) (ps : List Found) (q : Found) (p : Packet) (messages : List Message) (t : Told) → IsListedBehind ps q p messages → (p.header.channel ≡ channel → ⊥)
    → IsTold shown s ps channel t → IsTold shown s (ps ++ q ∷ []) channel t
told_elsewhere shown s channel ps q p messages t b other is = record {
  losses = is.losses ∙ sym (losses_elsewhere channel ps q p b.listed other);
  messages = passed_elsewhere (λ (h : List Recorded). IsFollowed shown h t.messages) s channel ps q p messages b.behind other is.messages;
}

-- one of the channel
pub told_here : (shown : Shown) (s : Selection) (ps : List Found) (q : Found) (p : Packet) (messages : List Message) (old new : Told) → IsListedBehind ps q p messages → IsTold shown s ps p.header.channel old
    → ((packets : List Packet) → length packets < 2 ^ 64 - 1 → old.losses ≡ losses_of p.header.channel packets → new.losses ≡ losses_of p.header.channel (packets ++ p ∷ []))
    → ((history : List Recorded) → IsFollowed shown history old.messages → IsFollowed shown (reverse (picked s (kind_of p.header) p.header.channel p.before messages) ++ history) new.messages)
    → IsTold shown s (ps ++ q ∷ []) p.header.channel new
told_here shown s ps q p messages old new b is noted counted = record {
  losses = noted (listing ps) (few_listed ps b.few) is.losses ∙ ap (losses_of p.header.channel) (sym (listing_one ps q p b.listed));
  messages = counted_here (λ (h : List Recorded). IsFollowed shown h new.messages) s p.header.channel ps q p messages b.behind refl (counted (history_of s ps p.header.channel) is.messages);
}

-- ---- all channels

-- this was put in the place of a channel
abbrev IsPut : ToldChannels → ToldChannels → ℕ → Option Told → Type 0
IsPut old new c x = (k : ℕ) → get nat_eq new.channels k ≡ cond (nat_eq c k) x (get nat_eq old.channels k)

at_put : (old new : ToldChannels) (c : ℕ) (x : Option Told) → IsPut old new c x → get nat_eq new.channels c ≡ x
at_put old new c x put = put c ∙ ap (λ (b : Bool). cond b x (get nat_eq old.channels c)) (eq-eqb c c refl)

beside : (old new : ToldChannels) (c k : ℕ) (x : Option Told) → IsPut old new c x → (c ≡ k → ⊥) → get nat_eq new.channels k ≡ get nat_eq old.channels k
beside old new c k x put other = put k ∙ ap (λ (b : Bool). cond b x (get nat_eq old.channels k)) (ne_eqb c k other)

same_some : (x y : Told) → Some x ≡ Some y → x ≡ y
same_some x y is = cc

not_some : {A : Type 0} (o : Option Told) (x : Told) → o ≡ None → o ≡ Some x → A
not_some o x none some = absurd cc

pub nothing_told : (shown : Shown) (s : Selection) (t : ToldChannels) → ((channel : ℕ) → get nat_eq t.channels channel ≡ None) → AreTold shown s [] [] t
nothing_told shown s t empty = record {
  there = λ channel. ap is_some (empty channel);
  each = λ channel x is. not_some (get nat_eq t.channels channel) x (empty channel) is;
}

or_false : (b : Bool) → (b || false) ≡ b
or_false true = refl
or_false false = refl

has_one : (figures : List ChannelFigures) (f : ChannelFigures) (channel : ℕ) → has_figures (figures ++ f ∷ []) channel ≡ (has_figures figures channel || (f.channel == channel))
has_one figures f channel = list_any-append (λ (x : ChannelFigures). x.channel == channel) figures (f ∷ []) ∙ ap (λ (b : Bool). has_figures figures channel || b) (or_false (f.channel == channel))

some_with : (b : Bool) (o : Option Told) (x : Told) → is_some (cond b (Some x) o) ≡ (is_some o || b)
some_with true None x = refl
some_with true (Some y) x = refl
some_with false None x = refl
some_with false (Some y) x = refl

pub one_added : (shown : Shown) (s : Selection) (figures : List ChannelFigures) (f : ChannelFigures) (old new : ToldChannels) (x : Told) → AreTold shown s figures [] old → IsTold shown s [] f.channel x
    → IsPut old new f.channel (Some x) → AreTold shown s (figures ++ f ∷ []) [] new
one_added shown s figures f old new x are told put = record {
  there = λ k. ap is_some (put k) ∙ some_with (f.channel == k) (get nat_eq old.channels k) x ∙ ap (λ (b : Bool). b || (f.channel == k)) (are.there k) ∙ sym (has_one figures f k);
  each = λ k y is. elim (cases_eq f.channel k) [
    | inl here ↦
        let same = same_some x y (sym (at_put old new f.channel (Some x) put) ∙ ap (λ (j : ℕ). get nat_eq new.channels j) here ∙ is) in
        subst (λ (j : ℕ). IsTold shown s [] j y) here (subst (IsTold shown s [] f.channel) same told)
    | inr other ↦ are.each k y (sym (beside old new f.channel k (Some x) put other) ∙ is)
  ];
}

-- a packet of a channel that is told of
pub packet_told : (shown : Shown) (s : Selection) (figures : List ChannelFigures) (ps : List Found) (q : Found) (p : Packet) (messages : List Message) (old between new : ToldChannels) (x y : Told)
    → IsListedBehind ps q p messages → AreTold shown s figures ps old → get nat_eq old.channels p.header.channel ≡ Some x → (IsTold shown s ps p.header.channel x → IsTold shown s (ps ++ q ∷ []) p.header.channel y)
    → IsPut old between p.header.channel None → IsPut between new p.header.channel (Some y) → AreTold shown s figures (ps ++ q ∷ []) new
packet_told shown s figures ps q p messages old between new x y b are got noted taken put = record {
  there = λ k. elim (cases_eq c k) [
    | inl here ↦ subst (λ (j : ℕ). is_some (get nat_eq new.channels j) ≡ has_figures figures j) here (ap is_some there ∙ sym (ap is_some got) ∙ are.there c)
    | inr other ↦ ap is_some (as_before k other) ∙ are.there k
  ];
  each = λ k z is. elim (cases_eq c k) [
    | inl here ↦
        let same = same_some y z (sym there ∙ ap (λ (j : ℕ). get nat_eq new.channels j) here ∙ is) in
        subst (λ (j : ℕ). IsTold shown s (ps ++ q ∷ []) j z) here (subst (IsTold shown s (ps ++ q ∷ []) c) same (noted (are.each c x got)))
    | inr other ↦ told_elsewhere shown s k ps q p messages z b other (are.each k z (sym (as_before k other) ∙ is))
  ];
}
  where
    c : ℕ
    c = p.header.channel

    there : get nat_eq new.channels c ≡ Some y
    there = at_put between new c (Some y) put

    as_before : (k : ℕ) → (c ≡ k → ⊥) → get nat_eq new.channels k ≡ get nat_eq old.channels k
    as_before k other = beside between new c k (Some y) put other ∙ beside old between c k None taken other

-- one of another channel
pub packet_passed : (shown : Shown) (s : Selection) (figures : List ChannelFigures) (ps : List Found) (q : Found) (p : Packet) (messages : List Message) (old new : ToldChannels)
    → IsListedBehind ps q p messages → AreTold shown s figures ps old → get nat_eq old.channels p.header.channel ≡ None → IsPut old new p.header.channel None → AreTold shown s figures (ps ++ q ∷ []) new
packet_passed shown s figures ps q p messages old new b are got taken = record {
  there = λ k. ap is_some (same k) ∙ are.there k;
  each = λ k z is. elim (cases_eq p.header.channel k) [
    | inl here ↦ not_some (get nat_eq old.channels p.header.channel) z got (ap (λ (j : ℕ). get nat_eq old.channels j) here ∙ sym (same k) ∙ is)
    | inr other ↦ told_elsewhere shown s k ps q p messages z b other (are.each k z (sym (same k) ∙ is))
  ];
}
  where
    same : (k : ℕ) → get nat_eq new.channels k ≡ get nat_eq old.channels k
    same k = elim (cases_eq p.header.channel k) [
      | inl here ↦ subst (λ (j : ℕ). get nat_eq new.channels j ≡ get nat_eq old.channels j) here (at_put old new p.header.channel None taken ∙ sym got)
      | inr other ↦ beside old new p.header.channel k None taken other
    ]

-- ---- packets as they are read

-- the packet that was read of a file that is known
pub listed_next : (before now : Reading) (p : Packet) (messages : List Message) (rest : List ℕ) → IsStep before now p → before.left ≡ Some rest → messages ≡ now.given → length before.earlier < 2 ^ 64 - 1
    → IsListedBehind (reverse before.earlier) (last_found now p) p messages
listed_next before now p messages rest step left are few = record {
  behind = next_one before now p messages rest step left are;
  listed = step.listed ∙ ap (λ (fs : List Found). listed_behind fs (last_found now p)) (sym (reverse-reverse before.earlier));
  few = omega (arith, few, length-reverse before.earlier);
}

-- the packets so far in their order, with one more
pub told_on : (shown : Shown) (s : Selection) (figures : List ChannelFigures) (before now : Reading) (p : Packet) (told : ToldChannels) → IsStep before now p
    → AreTold shown s figures (reverse before.earlier ++ last_found now p ∷ []) told → AreTold shown s figures (reverse now.earlier) told
told_on shown s figures before now p told step are =
    subst (λ (ps : List Found). AreTold shown s figures ps told) (sym (ap reverse step.entered ∙ one_behind (last_found now p) before.earlier)) are
