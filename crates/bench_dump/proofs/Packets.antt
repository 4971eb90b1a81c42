-- Packets of a dump, one after the other.
use Rattle.std.proofs.Common.{◌≡◌, Bool, false, ℕ, zero, suc, ◌+◌, ◌≤◌, ◌<◌, List, [], ◌∷◌, ◌++◌, length, take, drop, Option, None, Some, get_or, refl, sym, ap, subst, ◌∙◌, append_assoc, add-one, arith}
use Rattle.std.specs.Prelude.{slice_get}
use Rattle.std.proofs.lemmas.Option.{slice_get-get_or}
use Rattle.std.proofs.lemmas.List.{drop_all}
use Rattle.std.specs.Io.KnownBytes.{Appends, Keeps}
use Rattle.ch11_reader.specs.declared.packet.Packet.{Packet}
use Rattle.ch11_reader.specs.Recording.{Found}
use Rattle.ch11_reader.specs.Contents.{total_in}
use Rattle.ch11_reader.specs.Listing.{listed_behind, listing_behind, listing}
use Rattle.ch11_reader.specs.declared.skip.Skip.{Skip}
use Rattle.bench_clock.specs.declared.clock.Mark.{Mark}
use Rattle.bench_dump.specs.DumpText.{packet_line}
use Rattle.bench_dump.specs.SkippingText.{skip_lines, skips_before, skips_behind}
use Rattle.bench_dump.specs.TimedText.{kind_asked, timed_lines, timed_in_order, timed_text}
use Rattle.bench_dump.specs.Printing.{Carries}
use Rattle.bench_dump.proofs.Steps.{appends_both, carries_nothing}

-- the packet at a place, with what its entry tells, behind so many messages
pub record IsAt (earlier : ℕ) (ps : List Found) (i : ℕ) (e : Packet) : Type 0 where
  pub packet : Found
  pub there : slice_get ps i ≡ Some packet
  pub split : drop i ps ≡ packet ∷ drop (suc i) ps
  pub offset : e.offset ≡ packet.offset
  pub header : e.header ≡ packet.header
  pub count : e.count ≡ length packet.messages
  pub before : e.before ≡ earlier + total_in (take i ps)
  pub few : total_in (take i ps) + length packet.messages ≤ total_in ps
  pub next : total_in (take (suc i) ps) ≡ total_in (take i ps) + length packet.messages

at_entry : (earlier ps : List Found) (i : ℕ) (e : Packet) → slice_get (listing_behind earlier ps) i ≡ Some e → IsAt (total_in earlier) ps i e
at_entry earlier [] i e h = absurd cc
at_entry earlier (p ∷ ps) zero e h =
    let is : listed_behind earlier p ≡ e = cc in
    record {
      packet = p;
      there = refl;
      split = refl;
      offset = sym (ap (λ (x : Packet). x.offset) is);
      header = sym (ap (λ (x : Packet). x.header) is);
      count = sym (ap (λ (x : Packet). x.count) is);
      before = omega (arith, ap (λ (x : Packet). x.before) is);
      few = omega arith;
      next = omega arith;
    }
at_entry earlier (p ∷ ps) (suc i) e h =
    let r = at_entry (p ∷ earlier) ps i e h in
    record {
      packet = r.packet;
      there = r.there;
      split = r.split;
      offset = r.offset;
      header = r.header;
      count = r.count;
      before = omega (arith, r.before);
      few = omega (arith, r.few);
      next = omega (arith, r.next);
    }

-- what a place past the end is read as
abbrev pub no_packet : Packet
no_packet = record {
  offset = 0;
  header = record { channel = 0; packet_length = 0; data_length = 0; version = 0; sequence = 0; flags = 0; kind = 0; counter = 0 };
  before = 0;
  count = 0;
  sequence_jump = false;
}

-- what stands at a place of the listing
pub at_place : (ps : List Found) (entries : List Packet) (i : ℕ) (d : Packet) → entries ≡ listing ps → i < length entries → IsAt 0 ps i (get_or entries i d)
at_place ps entries i d listed within = at_entry [] ps i (get_or entries i d) (ap (λ (es : List Packet). slice_get es i) (sym listed) ∙ slice_get-get_or entries i d within)

length_listing : (earlier ps : List Found) → length (listing_behind earlier ps) ≡ length ps
length_listing earlier [] = refl
length_listing earlier (p ∷ ps) = ap suc (length_listing (p ∷ earlier) ps)

-- there are as many packets as entries
pub same_count : (ps : List Found) (entries : List Packet) → entries ≡ listing ps → length entries ≡ length ps
same_count ps entries listed = ap length listed ∙ length_listing [] ps

-- text that was carried on twice
pub carries_both : (got mid gets : Option (List ℕ)) (waiting waits then more line : List ℕ) → Carries got waiting mid waits more → Carries mid waits gets then line → Carries got waiting gets then (more ++ line)
carries_both got mid gets waiting waits then more line a b = record {
  sent = a.sent ++ b.sent;
  taken = appends_both got mid gets a.sent b.sent a.taken b.taken;
  kept = append_assoc a.sent b.sent then ∙ ap (λ (l : List ℕ). a.sent ++ l) b.kept ∙ sym (append_assoc a.sent waits line) ∙ ap (λ (l : List ℕ). l ++ line) a.kept ∙ append_assoc waiting more line;
}

-- a flush keeps what the writer got
pub kept : (old mid new : Option (List ℕ)) (text : List ℕ) → Appends old mid text → Keeps mid new → Appends old new text
kept None mid new text a k = tt
kept (Some xs) None new text a k = absurd a
kept (Some xs) (Some ys) None text a k = absurd k
kept (Some xs) (Some ys) (Some zs) text a k = k ∙ a
