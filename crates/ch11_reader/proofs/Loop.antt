-- Reading packets one after the other.
use Rattle.std.proofs.Common.{◌≡◌, ◌≢◌, ◌⊎◌, inl, inr, ℕ, zero, suc, ◌-◌, ◌+◌, ◌≤◌, ◌<◌, Bool, true, false, eqb, eq-eqb, List, [], ◌∷◌, ◌++◌, length, drop, set, replicate, Option, None, Some, get_or, Result, Ok, Err, refl, sym, ap, ◌∙◌, append_assoc, arith}
use Rattle.std.proofs.lemmas.Bool.{cases_eq, ne_eqb}
use Rattle.std.proofs.lemmas.List.{append-nil, length-drop, length-set, length-replicate, drop-drop, get_or-replicate, get_or-set_same, get_or-set_other, map_push}
use Rattle.ch11_header.specs.HeaderReading.{body_start}
use Rattle.ch11_header.specs.declared.header.Header.{Header}
use Rattle.ch11_reader.specs.declared.error.PacketFault.{PacketFault}
use Rattle.ch11_reader.specs.declared.error.Refusal.{Refusal}
use Rattle.ch11_reader.specs.declared.packet.Packet.{Packet}
use Rattle.ch11_reader.specs.Recording.{◌>>=◌, Found, packet_messages, packet_at, packets_from, packets_in}
use Rattle.ch11_reader.specs.Contents.{total_in}
use Rattle.ch11_reader.specs.Listing.{jumps, latest_sequence, listed_behind, listing_behind, listing}
use Rattle.ch11_reader.specs.Indexed.{AreWithin, IsIndex, found_of, indexed}

-- earlier packets, newest first, and then others
abbrev pub in_order : List Found → List Found → List Found
in_order [] ps = ps
in_order (p ∷ earlier) ps = in_order earlier (p ∷ ps)

-- what was read behind earlier packets
abbrev pub behind : List Found → Result (List Found) Refusal → Result (List Found) Refusal
behind earlier read = read >>= λ ps. Ok (in_order earlier ps)

-- the packets read so far, newest first: what is left gives the rest
pub record Going (file rest : List ℕ) (earlier : List Found) : Type 0 where
  pub shorter : length rest ≤ length file
  pub place : rest ≡ drop (length file - length rest) file
  pub most : ℕ
  pub enough : length rest ≤ most
  pub so_far : behind earlier (packets_from most (length file - length rest) rest) ≡ packets_in file

-- the packet that begins what is left
abbrev pub next_found : List ℕ → List ℕ → Header → Found
next_found file rest h = record { offset = length file - length rest; header = h; messages = packet_messages h rest }

pub begins : (file : List ℕ) → Going file file []
begins file = record {
  shorter = omega arith;
  place = rw at_start refl;
  most = length file;
  enough = omega arith;
  so_far = rw at_start (same (packets_in file));
}
  where
    at_start : length file - length file ≡ 0
    at_start = omega arith

    same : (read : Result (List Found) Refusal) → behind [] read ≡ read
    same (Ok ps) = refl
    same (Err e) = refl

one_more : (earlier : List Found) (p : Found) (read : Result (List Found) Refusal) → behind earlier (read >>= λ ps. Ok (p ∷ ps)) ≡ behind (p ∷ earlier) read
one_more earlier p (Ok ps) = refl
one_more earlier p (Err e) = refl

pub goes_on : (file rest : List ℕ) (earlier : List Found) (h : Header) → packet_at rest ≡ Ok h → 24 ≤ h.packet_length → h.packet_length ≤ length rest
    → Going file rest earlier → Going file (drop h.packet_length rest) (next_found file rest h ∷ earlier)
unfolding packets_from
goes_on file [] earlier h read long fits g = absurd (omega arith)
goes_on file (b ∷ bs) earlier h read long fits g = go g.most g.enough g.so_far
  where
    next : length file - length (drop h.packet_length (b ∷ bs)) ≡ length file - length (b ∷ bs) + h.packet_length
    next = omega (arith, length-drop h.packet_length (b ∷ bs), fits, g.shorter)

    place_on : drop h.packet_length (b ∷ bs) ≡ drop (length file - length (b ∷ bs) + h.packet_length) file
    place_on = ap (drop h.packet_length) g.place ∙ drop-drop h.packet_length (length file - length (b ∷ bs)) file

    go : (n : ℕ) → length (b ∷ bs) ≤ n → behind earlier (packets_from n (length file - length (b ∷ bs)) (b ∷ bs)) ≡ packets_in file → Going file (drop h.packet_length (b ∷ bs)) (next_found file (b ∷ bs) h ∷ earlier)
    go zero enough so_far = absurd (omega arith)
    go (suc n) enough so_far =
        let one : behind earlier (packets_from (suc n) (length file - length (b ∷ bs)) (b ∷ bs)) ≡ behind (next_found file (b ∷ bs) h ∷ earlier) (packets_from n (length file - length (b ∷ bs) + h.packet_length) (drop h.packet_length (b ∷ bs))) =
        rw read (one_more earlier (next_found file (b ∷ bs) h) (packets_from n (length file - length (b ∷ bs) + h.packet_length) (drop h.packet_length (b ∷ bs)))) in
        record {
          shorter = omega (arith, length-drop h.packet_length (b ∷ bs), g.shorter);
          place = rw next place_on;
          most = n;
          enough = omega (arith, length-drop h.packet_length (b ∷ bs));
          so_far = rw next (sym one ∙ so_far);
        }

pub stops : (file rest : List ℕ) (earlier : List Found) (f : PacketFault) → 0 < length rest → packet_at rest ≡ Err f
    → Going file rest earlier → packets_in file ≡ Err (record { offset = length file - length rest; fault = f })
unfolding packets_from
stops file [] earlier f some read g = absurd (omega arith)
stops file (b ∷ bs) earlier f some read g = go g.most g.enough g.so_far
  where
    go : (n : ℕ) → length (b ∷ bs) ≤ n → behind earlier (packets_from n (length file - length (b ∷ bs)) (b ∷ bs)) ≡ packets_in file → packets_in file ≡ Err (record { offset = length file - length (b ∷ bs); fault = f })
    go zero enough so_far = absurd (omega arith)
    go (suc n) enough so_far =
        let one : behind earlier (packets_from (suc n) (length file - length (b ∷ bs)) (b ∷ bs)) ≡ Err (record { offset = length file - length (b ∷ bs); fault = f }) = rw read refl in
        sym so_far ∙ one

pub ends : (file rest : List ℕ) (earlier : List Found) → length rest ≡ 0 → Going file rest earlier → packets_in file ≡ Ok (in_order earlier [])
unfolding packets_from
ends file (b ∷ bs) earlier none g = absurd (omega arith)
ends file [] earlier none g = go g.most g.so_far
  where
    go : (n : ℕ) → behind earlier (packets_from n (length file - 0) []) ≡ packets_in file → packets_in file ≡ Ok (in_order earlier [])
    go zero so_far = sym so_far
    go (suc n) so_far = sym so_far

-- ---- the entries

-- the bytes that are left, the entries so far and the latest sequence numbers fit the packets so far, newest first
pub record Entered (file rest : List ℕ) (earlier : List Found) (entries : List Packet) (before : ℕ) (latest : List (Option ℕ)) : Type 0 where
  pub shorter : length rest ≤ length file
  pub place : rest ≡ drop (length file - length rest) file
  pub listed : (ps : List Found) → listing (in_order earlier ps) ≡ entries ++ listing_behind earlier ps
  pub counted : before ≡ total_in earlier
  pub few : before ≤ length file - length rest
  pub sequences : (channel : ℕ) → channel < 65536 → get_or latest channel None ≡ latest_sequence channel earlier
  pub table : length latest ≡ 65536
  pub found : (ps : List Found) → in_order earlier ps ≡ indexed file entries ++ ps
  pub within : AreWithin file entries

-- the entries are those of the packets read so far
pub record Building (file rest : List ℕ) (entries : List Packet) (before : ℕ) (latest : List (Option ℕ)) : Type 0 where
  pub earlier : List Found
  pub going : Going file rest earlier
  pub entered : Entered file rest earlier entries before latest

pub nothing_entered : (file : List ℕ) (latest : List (Option ℕ)) → latest ≡ replicate 65536 None → Entered file file [] [] 0 latest
nothing_entered file latest none = record {
  shorter = omega arith;
  place = rw at_start refl;
  listed = λ ps. refl;
  counted = refl;
  few = omega arith;
  sequences = λ channel within. rw none (get_or-replicate 65536 channel None None within);
  table = rw none (length-replicate {A = Option ℕ} 65536 None);
  found = λ ps. refl;
  within = tt;
}
  where
    at_start : length file - length file ≡ 0
    at_start = omega arith

pub starts : (file : List ℕ) (latest : List (Option ℕ)) → latest ≡ replicate 65536 None → Building file file [] 0 latest
starts file latest none = record { earlier = []; going = begins file; entered = nothing_entered file latest none }

abbrev pub noted : List (Option ℕ) → Header → List (Option ℕ)
noted latest h = set latest h.channel (Some h.sequence)

pub sequences_on : (latest : List (Option ℕ)) (earlier : List Found) (p : Found) → length latest ≡ 65536 → p.header.channel < 65536 → ((channel : ℕ) → channel < 65536 → get_or latest channel None ≡ latest_sequence channel earlier)
    → (channel : ℕ) → channel < 65536 → get_or (noted latest p.header) channel None ≡ latest_sequence channel (p ∷ earlier)
sequences_on latest earlier p table low so_far channel within = go (cases_eq channel p.header.channel)
  where
    go : (channel ≡ p.header.channel) ⊎ (channel ≢ p.header.channel) → get_or (noted latest p.header) channel None ≡ latest_sequence channel (p ∷ earlier)
    go (inl same) =
        let test : eqb p.header.channel channel ≡ true = eq-eqb p.header.channel channel (sym same) in
        let at : get_or (noted latest p.header) channel None ≡ Some p.header.sequence = rw same (get_or-set_same latest p.header.channel (Some p.header.sequence) None (omega arith)) in
        rw test at
    go (inr other) =
        let test : eqb p.header.channel channel ≡ false = ne_eqb p.header.channel channel (λ e. other (sym e)) in
        let at : get_or (noted latest p.header) channel None ≡ latest_sequence channel earlier = get_or-set_other latest p.header.channel channel (Some p.header.sequence) None other ∙ so_far channel within in
        rw test at

within_more : (file : List ℕ) (es : List Packet) (e : Packet) → AreWithin file es → e.offset + (body_start e.header + e.header.data_length) ≤ length file → AreWithin file (es ++ e ∷ [])
within_more file [] e so_far here = (here, tt)
within_more file (f ∷ es) e so_far here = (so_far.0, within_more file es e so_far.1 here)

-- what the pass knows of the packet that begins what is left
pub record IsNext (file rest : List ℕ) (h : Header) (counted : ℕ) : Type 0 where
  pub read : packet_at rest ≡ Ok h
  pub channel : h.channel < 65536
  pub long : 24 ≤ h.packet_length
  pub whole : h.packet_length ≤ length rest
  pub body : body_start h + h.data_length ≤ h.packet_length
  pub count : counted ≡ length (packet_messages h rest)
  pub few : counted ≤ h.packet_length

-- the entry of the packet that begins what is left
abbrev pub next_entry : List ℕ → List ℕ → ℕ → Header → ℕ → Bool → Packet
next_entry file rest before h counted jump = record { offset = length file - length rest; header = h; before = before; count = counted; sequence_jump = jump }

entry_is : (file rest : List ℕ) (earlier : List Found) (entries : List Packet) (before : ℕ) (latest : List (Option ℕ)) (h : Header) (counted : ℕ) (jump : Bool) → IsNext file rest h counted → (b : Entered file rest earlier entries before latest)
    → jump ≡ jumps (get_or latest h.channel None) h.sequence → next_entry file rest before h counted jump ≡ listed_behind earlier (next_found file rest h)
entry_is file rest earlier entries before latest h counted jump next b is = rw (is, b.sequences h.channel next.channel, b.counted, next.count) refl

-- the packet that begins what is left was entered
pub one_entered : (file rest : List ℕ) (earlier : List Found) (entries : List Packet) (before : ℕ) (latest : List (Option ℕ)) (h : Header) (counted : ℕ) (jump : Bool) → IsNext file rest h counted → (b : Entered file rest earlier entries before latest)
    → jump ≡ jumps (get_or latest h.channel None) h.sequence
    → Entered file (drop h.packet_length rest) (next_found file rest h ∷ earlier) (entries ++ next_entry file rest before h counted jump ∷ []) (before + counted) (noted latest h)
one_entered file rest earlier entries before latest h counted jump next b known = record {
  shorter = omega (arith, length-drop h.packet_length rest, b.shorter);
  place = rw past (ap (drop h.packet_length) b.place ∙ drop-drop h.packet_length (length file - length rest) file);
  listed = λ ps. b.listed (next_found file rest h ∷ ps) ∙ ap (λ (x : Packet). entries ++ (x ∷ listing_behind (next_found file rest h ∷ earlier) ps)) (sym is) ∙ sym (append_assoc entries (e ∷ []) (listing_behind (next_found file rest h ∷ earlier) ps));
  counted = omega (arith, b.counted, next.count);
  few = omega (arith, b.few, next.few, next.whole, b.shorter, length-drop h.packet_length rest);
  sequences = sequences_on latest earlier (next_found file rest h) b.table next.channel b.sequences;
  table = length-set latest h.channel (Some h.sequence) ∙ b.table;
  found = λ ps. b.found (next_found file rest h ∷ ps) ∙ ap (λ (x : Found). indexed file entries ++ (x ∷ ps)) here ∙ sym (append_assoc (indexed file entries) (found_of file e ∷ []) ps) ∙ ap (λ (xs : List Found). xs ++ ps) (sym (map_push (found_of file) entries e));
  within = within_more file entries e b.within (omega (arith, next.body, next.whole, b.shorter));
}
  where
    e : Packet
    e = next_entry file rest before h counted jump

    is : e ≡ listed_behind earlier (next_found file rest h)
    is = entry_is file rest earlier entries before latest h counted jump next b known

    here : next_found file rest h ≡ found_of file e
    here = ap (λ (bytes : List ℕ). record { offset = length file - length rest; header = h; messages = packet_messages h bytes }) b.place

    past : length file - length (drop h.packet_length rest) ≡ length file - length rest + h.packet_length
    past = omega (arith, length-drop h.packet_length rest, next.whole, b.shorter)

-- bytes were passed over that are no packet
pub none_entered : (file rest : List ℕ) (earlier : List Found) (entries : List Packet) (before : ℕ) (latest : List (Option ℕ)) (n : ℕ) → n ≤ length rest
    → Entered file rest earlier entries before latest → Entered file (drop n rest) earlier entries before latest
none_entered file rest earlier entries before latest n fits b = record {
  shorter = omega (arith, length-drop n rest, b.shorter);
  place = rw past (ap (drop n) b.place ∙ drop-drop n (length file - length rest) file);
  listed = b.listed;
  counted = b.counted;
  few = omega (arith, b.few, fits, b.shorter, length-drop n rest);
  sequences = b.sequences;
  table = b.table;
  found = b.found;
  within = b.within;
}
  where
    past : length file - length (drop n rest) ≡ length file - length rest + n
    past = omega (arith, length-drop n rest, fits, b.shorter)

pub builds_on : (file rest : List ℕ) (entries : List Packet) (before : ℕ) (latest : List (Option ℕ)) (h : Header) (counted : ℕ) (jump : Bool) → IsNext file rest h counted → Building file rest entries before latest
    → jump ≡ jumps (get_or latest h.channel None) h.sequence → Building file (drop h.packet_length rest) (entries ++ next_entry file rest before h counted jump ∷ []) (before + counted) (noted latest h)
builds_on file rest entries before latest h counted jump next b known = record {
  earlier = next_found file rest h ∷ b.earlier;
  going = goes_on file rest b.earlier h next.read next.long next.whole b.going;
  entered = one_entered file rest b.earlier entries before latest h counted jump next b.entered known;
}

total_in_order : (earlier ps : List Found) → total_in (in_order earlier ps) ≡ total_in earlier + total_in ps
total_in_order [] ps = omega arith
total_in_order (p ∷ earlier) ps = omega (arith, total_in_order earlier (p ∷ ps))

-- the packets of the entries are those so far
pub all_entered : (file rest : List ℕ) (earlier : List Found) (entries : List Packet) (before : ℕ) (latest : List (Option ℕ)) → Entered file rest earlier entries before latest → in_order earlier [] ≡ indexed file entries
all_entered file rest earlier entries before latest b = b.found [] ∙ append-nil (indexed file entries)

pub entries_index : (file rest : List ℕ) (earlier : List Found) (entries : List Packet) (before : ℕ) (latest : List (Option ℕ)) → Entered file rest earlier entries before latest → IsIndex file entries before
entries_index file rest earlier entries before latest b =
    let all = all_entered file rest earlier entries before latest b in
    record {
      listed = sym (ap listing (sym all) ∙ b.listed [] ∙ append-nil entries);
      counted = omega (arith, b.counted, total_in_order earlier [], ap total_in all);
      few = omega (arith, b.few);
      within = b.within;
    }

pub is_read : (file rest : List ℕ) (entries : List Packet) (before : ℕ) (latest : List (Option ℕ)) → length rest ≡ 0 → (b : Building file rest entries before latest) → packets_in file ≡ Ok (indexed file entries)
is_read file rest entries before latest none b = ends file rest b.earlier none b.going ∙ ap Ok (all_entered file rest b.earlier entries before latest b.entered)
