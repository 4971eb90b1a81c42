-- Messages that are passed, those of a packet and those of packets that come from a reader; histories stand newest first.
use Rattle.std.proofs.Common.{◌≡◌, ℕ, ◌+◌, List, [], ◌∷◌, ◌++◌, length, reverse, refl, ap, sym, ◌∙◌, subst, arith, append_assoc, append-nil, length-append}
use Rattle.std.specs.Prelude.{map}
use Rattle.std.proofs.lemmas.List.{reverse-append, map-append, length-map, length-reverse}
use Rattle.std.proofs.lemmas.Grind.{flat_map-append}
use Rattle.ch11_f1.specs.BodyReading.{Message}
use Rattle.ch11_layout.specs.Stamps.{recorded, kind_of}
use Rattle.ch11_layout.specs.declared.stamps.StampKind.{StampKind}
use Rattle.ch11_reader.specs.Recording.{Found}
use Rattle.ch11_reader.specs.Contents.{total_in}
use Rattle.ch11_stream.proofs.Folding.{one_behind, total_reverse}
use Rattle.bench_select.specs.Viewed.{viewed_of, viewed_in, viewed_behind, Viewed}

abbrev pub with_channel : StampKind → ℕ → Message → Viewed
with_channel kind channel = λ (m : Message). (channel, recorded kind m)

-- the messages of a packet so far were passed, behind a history, and something is known of all that was passed
pub record IsPassing (known : List Viewed → Type 0) (kind : StampKind) (channel : ℕ) (all rest : List Message) (history : List Viewed) : Type 0 where
  pub passed : List Message
  pub split : passed ++ rest ≡ all
  pub now : known (viewed_behind kind channel passed history)

pub passing-none : (known : List Viewed → Type 0) (kind : StampKind) (channel : ℕ) (all : List Message) (history : List Viewed) → known history → IsPassing known kind channel all all history
passing-none known kind channel all history is = record { passed = []; split = refl; now = is }

length-history : (kind : StampKind) (channel : ℕ) (passed : List Message) (history : List Viewed) → length (viewed_behind kind channel passed history) ≡ length passed + length history
length-history kind channel passed history =
    omega (arith, length-append (reverse (map (with_channel kind channel) passed)) history, length-reverse (map (with_channel kind channel) passed), length-map passed (with_channel kind channel))

one_more : (kind : StampKind) (channel : ℕ) (passed : List Message) (m : Message) (history : List Viewed) → viewed_behind kind channel (passed ++ m ∷ []) history ≡ (channel, recorded kind m) ∷ viewed_behind kind channel passed history
one_more kind channel passed m history =
    ap (λ (hs : List Viewed). reverse hs ++ history) (map-append (with_channel kind channel) passed (m ∷ []))
    ∙ ap (λ (hs : List Viewed). hs ++ history) (reverse-append (map (with_channel kind channel) passed) ((channel, recorded kind m) ∷ []))

pub passing-more : (known next : List Viewed → Type 0) (kind : StampKind) (channel : ℕ) (all rest others : List Message) (m : Message) (history : List Viewed) → IsPassing known kind channel all rest history → rest ≡ m ∷ others
    → ((hs : List Viewed) → known hs → length hs + length rest ≡ length history + length all → next ((channel, recorded kind m) ∷ hs))
    → IsPassing next kind channel all others history
passing-more known next kind channel all rest others m history p is noted = record {
  passed = p.passed ++ m ∷ [];
  split = append_assoc p.passed (m ∷ []) others ∙ ap (λ (ms : List Message). p.passed ++ ms) (sym is) ∙ p.split;
  now = subst next (sym (one_more kind channel p.passed m history))
      (noted (viewed_behind kind channel p.passed history) p.now (omega (arith, length-history kind channel p.passed history, length-append p.passed rest, ap length p.split)));
}

pub passing-all : (known : List Viewed → Type 0) (kind : StampKind) (channel : ℕ) (all rest : List Message) (history : List Viewed) → IsPassing known kind channel all rest history → rest ≡ [] → known (viewed_behind kind channel all history)
passing-all known kind channel all rest history p none =
    subst (λ (ms : List Message). known (viewed_behind kind channel ms history)) (sym (append-nil p.passed) ∙ ap (λ (ms : List Message). p.passed ++ ms) (sym none) ∙ p.split) p.now

length-viewed : (ps : List Found) → length (viewed_in ps) ≡ total_in ps
length-viewed [] = refl
length-viewed (p ∷ ps) = omega (arith, length-append (viewed_of p) (viewed_in ps), length-map p.messages (with_channel (kind_of p.header) p.header.channel), length-viewed ps)

-- those of packets that stand newest first
abbrev pub viewed_so_far : List Found → List Viewed
viewed_so_far earlier = reverse (viewed_in (reverse earlier))

pub viewed_more : (q : Found) (earlier : List Found) → viewed_behind (kind_of q.header) q.header.channel q.messages (viewed_so_far earlier) ≡ viewed_so_far (q ∷ earlier)
viewed_more q earlier = sym (
    ap (λ (ps : List Found). reverse (viewed_in ps)) (one_behind q earlier)
    ∙ ap reverse (flat_map-append viewed_of (reverse earlier) (q ∷ []) ∙ ap (λ (hs : List Viewed). viewed_in (reverse earlier) ++ hs) (append-nil (viewed_of q)))
    ∙ reverse-append (viewed_in (reverse earlier)) (viewed_of q)
    )

pub viewed_count : (earlier : List Found) → length (viewed_so_far earlier) ≡ total_in earlier
viewed_count earlier = omega (arith, length-reverse (viewed_in (reverse earlier)), length-viewed (reverse earlier), total_reverse earlier)
