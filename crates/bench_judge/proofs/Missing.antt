-- Packets that miss a rule, packet by packet.
use Rattle.std.proofs.Common.{◌≡◌, ℕ, ◌+◌, ◌-◌, ◌<◌, ◌≤◌, ◌^◌, List, [], ◌∷◌, ◌++◌, length, take, cond, refl, ap, sym, ◌∙◌, arith, append-nil, length-append, subst}
use Rattle.std.specs.Prelude.{Bool, true, false, Option}
use Rattle.std.specs.Io.KnownBytes.{Appends}
use Rattle.std.specs.List.{flat_map}
use Rattle.std.proofs.lemmas.Grind.{flat_map-append}
use Rattle.std.proofs.lemmas.List.{take_all}
use Rattle.std.proofs.lemmas.List.Elements.{filter-append}
use Rattle.ch11_reader.specs.Contents.{capped}
use Rattle.ch11_reader.specs.declared.packet.Packet.{Packet}
use Rattle.ch11_reader.specs.declared.skip.Skip.{Skip}
use Rattle.bench_dump.proofs.Steps.{appends_both}
use Rattle.judge_rules.specs.declared.rules.Rule.{Rule}
use Rattle.bench_judge.specs.declared.packets.PacketTally.{PacketTally}
use Rattle.bench_judge.specs.Packets.{IsPacketTally, misses_packet, packets_missed, selects_packet}
use Rattle.bench_judge.specs.Tallies.{IsPacketTelling}
use Rattle.bench_judge.specs.Told.{told_packet}
use Rattle.bench_judge.proofs.Losing.{one_counted}
use Rattle.bench_judge.proofs.FirstTold.{take_full, told_one}

pub packet_counted : (rule : Rule) (packets : List Packet) (p : Packet) (old next : PacketTally) → length packets < 2 ^ 64 - 1 → IsPacketTally rule packets old → next.selected ≡ capped (old.selected + cond (selects_packet rule p) 1 0)
    → next.missed ≡ capped (old.missed + cond (misses_packet rule p) 1 0) → IsPacketTally rule (packets ++ p ∷ []) next
packet_counted rule packets p old next few is one miss = record {
  selected = one ∙ one_counted (selects_packet rule) packets p old.selected few is.selected;
  missed = miss ∙ one_counted (misses_packet rule) packets p old.missed few is.missed;
}

-- one more packet misses the rule, or does not
pub missed-one : (rule : Rule) (packets : List Packet) (p : Packet) → misses_packet rule p ≡ true → packets_missed rule (packets ++ p ∷ []) ≡ packets_missed rule packets ++ p ∷ []
missed-one rule packets p is = filter-append (misses_packet rule) packets (p ∷ []) ∙ ap (λ (xs : List Packet). packets_missed rule packets ++ xs) (rw is refl)

pub missed-same : (rule : Rule) (packets : List Packet) (p : Packet) → misses_packet rule p ≡ false → packets_missed rule (packets ++ p ∷ []) ≡ packets_missed rule packets
missed-same rule packets p is = filter-append (misses_packet rule) packets (p ∷ []) ∙ ap (λ (xs : List Packet). packets_missed rule packets ++ xs) (rw is refl) ∙ append-nil (packets_missed rule packets)

-- the line of a packet, where it misses the rule
pub line-one : (rule : Rule) (line : Packet → List ℕ) (p : Packet) → misses_packet rule p ≡ true → flat_map line (packets_missed rule (p ∷ [])) ≡ line p
line-one rule line p is = rw is (append-nil (line p))

pub line-none : (rule : Rule) (line : Packet → List ℕ) (p : Packet) → misses_packet rule p ≡ false → flat_map line (packets_missed rule (p ∷ [])) ≡ []
line-none rule line p is = rw is refl

-- its line is written, where it has one
pub lines-more : (rule : Rule) (line : Packet → List ℕ) (packets : List Packet) (p : Packet) (got mid gets : Option (List ℕ)) → Appends got mid (flat_map line (packets_missed rule packets)) → Appends mid gets (flat_map line (packets_missed rule (p ∷ [])))
    → Appends got gets (flat_map line (packets_missed rule (packets ++ p ∷ [])))
lines-more rule line packets p got mid gets before one =
    let here = packets_missed rule (p ∷ []) in
    let same = ap (flat_map line) (filter-append (misses_packet rule) packets (p ∷ [])) ∙ flat_map-append line (packets_missed rule packets) here in
    subst (Appends got gets) (sym same) (appends_both got mid gets (flat_map line (packets_missed rule packets)) (flat_map line here) before one)

pub told-none : (skips : List Skip) (rule : Rule) (most : ℕ) → IsPacketTelling skips rule most [] [] most
told-none skips rule most = record { told = sym (ap (flat_map (told_packet skips)) (take_all most [] (omega arith))); left = omega arith }

pub told-same : (skips : List Skip) (rule : Rule) (most : ℕ) (packets : List Packet) (p : Packet) (text : List ℕ) (left : ℕ) → IsPacketTelling skips rule most packets text left → misses_packet rule p ≡ false → IsPacketTelling skips rule most (packets ++ p ∷ []) text left
told-same skips rule most packets p text left t is =
    let kept = missed-same rule packets p is in record {
      told = t.told ∙ ap (λ (xs : List Packet). flat_map (told_packet skips) (take most xs)) (sym kept);
      left = t.left ∙ ap (λ (xs : List Packet). most - length xs) (sym kept);
    }

pub told-full : (skips : List Skip) (rule : Rule) (most : ℕ) (packets : List Packet) (p : Packet) (text : List ℕ) (left : ℕ) → IsPacketTelling skips rule most packets text left → left ≡ 0 → IsPacketTelling skips rule most (packets ++ p ∷ []) text left
told-full skips rule most packets p text left t full = go (misses_packet rule p) refl
  where
    go : (b : Bool) → misses_packet rule p ≡ b → IsPacketTelling skips rule most (packets ++ p ∷ []) text left
    go false is = told-same skips rule most packets p text left t is
    go true is =
        let many : most ≤ length (packets_missed rule packets) = omega (arith, t.left, full) in
        let grown = missed-one rule packets p is in record {
          told = t.told ∙ ap (flat_map (told_packet skips)) (sym (ap (take most) grown ∙ take_full most (packets_missed rule packets) p many));
          left = omega (arith, full, many, ap length grown, length-append (packets_missed rule packets) (p ∷ []));
        }

pub told-one : (skips : List Skip) (rule : Rule) (most : ℕ) (packets : List Packet) (p : Packet) (text now : List ℕ) (left : ℕ) → IsPacketTelling skips rule most packets text left → misses_packet rule p ≡ true → 0 < left → now ≡ text ++ told_packet skips p
    → IsPacketTelling skips rule most (packets ++ p ∷ []) now (left - 1)
told-one skips rule most packets p text now left t is some put =
    let few : length (packets_missed rule packets) < most = omega (arith, t.left, some) in
    let grown = missed-one rule packets p is in record {
      told = put ∙ ap (λ (l : List ℕ). l ++ told_packet skips p) t.told ∙ sym (ap (λ (xs : List Packet). flat_map (told_packet skips) (take most xs)) grown ∙ told_one (told_packet skips) most (packets_missed rule packets) p few);
      left = omega (arith, t.left, some, ap length grown, length-append (packets_missed rule packets) (p ∷ []));
    }
