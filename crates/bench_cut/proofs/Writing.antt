-- Packets and messages that are written.
use Rattle.std.proofs.Common.{◌≡◌, ℕ, ◌+◌, ◌<◌, ◌^◌, Bool, true, false, cond, List, [], ◌∷◌, ◌++◌, length, drop, Option, refl, sym, ap, subst, ◌∙◌, append_assoc, append-nil, arith}
use Rattle.std.specs.Io.KnownBytes.{Appends}
use Rattle.ch11_header.specs.HeaderBytes.{header_bytes}
use Rattle.ch11_f1.specs.BodyReading.{Message}
use Rattle.ch11_layout.specs.Stamps.{recorded}
use Rattle.ch11_layout.specs.declared.stamps.StampKind.{StampKind}
use Rattle.bench_complete.proofs.Running.{appends_both, appends_nothing}
use Rattle.bench_select.specs.declared.selection.Selection.{Selection}
use Rattle.bench_select.specs.Selecting.{selects}
use Rattle.bench_cut.specs.declared.losses.ChannelLoss.{ChannelLoss}
use Rattle.bench_cut.specs.Cut.{body_with, bytes_if, bytes_of_messages, header_with}
use Rattle.bench_cut.specs.Heads.{header_for}
use Rattle.bench_cut.specs.Packets.{bytes_for}
use Rattle.bench_cut.specs.Parts.{Part, chosen_among, loses}
use Rattle.bench_cut.specs.Short.{AreShort}

-- ---- the messages that are chosen

pub record IsWriting (s : Selection) (kind : StampKind) (got gets : Option (List ℕ)) (before number channel : ℕ) (all rest : List Message) : Type 0 where
  pub more : List ℕ
  pub written : Appends got gets more
  pub counted : number + length rest ≡ before + length all
  pub bytes : more ++ bytes_of_messages (chosen_among s kind number channel rest) ≡ bytes_of_messages (chosen_among s kind before channel all)
  pub short : AreShort rest

pub begins : (s : Selection) (kind : StampKind) (got : Option (List ℕ)) (before channel : ℕ) (all : List Message) → AreShort all → IsWriting s kind got got before before channel all all
begins s kind got before channel all short = record { more = []; written = appends_nothing got; counted = refl; bytes = refl; short = short }

one_if : (b : Bool) (m : Message) (ms : List Message) → bytes_if b m ++ bytes_of_messages ms ≡ bytes_of_messages (cond b (m ∷ ms) ms)
one_if true m ms = refl
one_if false m ms = refl

pub goes_on : (s : Selection) (kind : StampKind) (got mid gets : Option (List ℕ)) (before number channel n : ℕ) (all rest others : List Message) (m : Message) (b : Bool)
    → IsWriting s kind got mid before number channel all rest → rest ≡ m ∷ others → n ≡ number + 1 → b ≡ selects s n channel (recorded kind m) → Appends mid gets (bytes_if b m)
    → IsWriting s kind got gets before n channel all others
goes_on s kind got mid gets before number channel n all rest others m b g is next e one = record {
  more = g.more ++ bytes_if b m;
  written = appends_both got mid gets g.more (bytes_if b m) g.written one;
  counted = omega (arith, g.counted, next, ap length is);
  bytes = append_assoc g.more (bytes_if b m) (come n)
      ∙ ap (λ (l : List ℕ). g.more ++ l) (
      ap (λ (k : ℕ). bytes_if b m ++ come k) next
      ∙ one_if b m (chosen_among s kind (number + 1) channel others)
      ∙ ap (λ (v : Bool). bytes_of_messages (cond v (m ∷ chosen_among s kind (number + 1) channel others) (chosen_among s kind (number + 1) channel others))) (e ∙ ap (λ (k : ℕ). selects s k channel (recorded kind m)) next)
      ∙ ap (λ (ms : List Message). bytes_of_messages (chosen_among s kind number channel ms)) (sym is)
      )
      ∙ g.bytes;
  short = (subst AreShort is g.short).1;
}
  where
    come : ℕ → List ℕ
    come k = bytes_of_messages (chosen_among s kind k channel others)

pub ends : (s : Selection) (kind : StampKind) (got gets : Option (List ℕ)) (before number channel : ℕ) (all rest : List Message) → IsWriting s kind got gets before number channel all rest → rest ≡ [] → Appends got gets (bytes_of_messages (chosen_among s kind before channel all))
ends s kind got gets before number channel all rest g none =
    subst (Appends got gets) (sym (append-nil g.more) ∙ ap (λ (ms : List Message). g.more ++ bytes_of_messages (chosen_among s kind number channel ms)) (sym none) ∙ g.bytes) g.written

pub is_short : (m : Message) (rest others : List Message) → AreShort rest → rest ≡ m ∷ others → length m.bytes < 2 ^ 16
is_short m rest others all is = (subst AreShort is all).0

-- ---- packets

-- a header, and all that stood behind it
pub kept_written : (loss : ChannelLoss) (p : Part) (old mid new : Option (List ℕ)) → loses p ≡ false → Appends old mid (header_bytes (header_for loss p.header)) → Appends mid new (drop 24 p.bytes) → Appends old new (bytes_for loss p)
kept_written loss p old mid new all head rest = rw all (appends_both old mid new (header_bytes (header_for loss p.header)) (drop 24 p.bytes) head rest)

-- a header, and a body with the messages that are left
pub lost_written : (loss : ChannelLoss) (p : Part) (old mid new : Option (List ℕ)) → loses p ≡ true → Appends old mid (header_bytes (header_for loss (header_with p.header p.chosen)))
    → Appends mid new (body_with p.header p.bytes p.chosen) → Appends old new (bytes_for loss p)
lost_written loss p old mid new some head rest = rw some (appends_both old mid new (header_bytes (header_for loss (header_with p.header p.chosen))) (body_with p.header p.bytes p.chosen) head rest)

-- three parts, one behind the other
pub three_parts : (old one two new : Option (List ℕ)) (a b c : List ℕ) → Appends old one a → Appends one two b → Appends two new c → Appends old new (a ++ (b ++ c))
three_parts old one two new a b c first second third = appends_both old one new a (b ++ c) first (appends_both one two new b c second third)
