-- The entries of an index against the packets of its recording.
use Rattle.std.proofs.Common.{◌≡◌, ℕ, zero, suc, ◌-◌, ◌+◌, ◌≤◌, ◌<◌, List, [], ◌∷◌, ◌++◌, length, drop, Option, None, Some, option_map, get_or, refl, sym, ap, subst, ◌∙◌, arith}
use Rattle.std.specs.Prelude.{slice_get}
use Rattle.std.proofs.lemmas.List.{length-append, length-map}
use Rattle.ch11_f1.specs.declared.seen.Seen.{Seen}
use Rattle.ch11_f1.specs.Views.{message_of}
use Rattle.ch11_f1.specs.BodyReading.{Message}
use Rattle.ch11_reader.specs.declared.packet.Packet.{Packet}
use Rattle.ch11_reader.specs.Recording.{Found, packet_messages}
use Rattle.ch11_reader.specs.Contents.{heard_of, heard_in, total_in, message_numbered}
use Rattle.ch11_reader.specs.Listing.{listed_behind, listing_behind}
use Rattle.ch11_reader.specs.Indexed.{AreWithin, IsIndex, found_of, indexed}
use Rattle.ch11_header.specs.HeaderReading.{body_start}
use Rattle.std.proofs.lemmas.Option.{slice_get-map, slice_get_past, slice_get_read}

slice_get-append_left : {A : Type 0} (xs ys : List A) (i : ℕ) → i < length xs → slice_get (xs ++ ys) i ≡ slice_get xs i
slice_get-append_left [] ys i h = absurd (omega arith)
slice_get-append_left (x ∷ xs) ys zero h = refl
slice_get-append_left (x ∷ xs) ys (suc i) h = slice_get-append_left xs ys i (omega arith)

slice_get-append_add : {A : Type 0} (xs ys : List A) (i n : ℕ) → n ≡ length xs + i → slice_get (xs ++ ys) n ≡ slice_get ys i
slice_get-append_add [] ys i n e = rw e (ap (slice_get ys) (omega arith))
slice_get-append_add (x ∷ xs) ys i zero e = absurd (omega arith)
slice_get-append_add (x ∷ xs) ys i (suc n) e = slice_get-append_add xs ys i n (omega arith)

-- an entry of the listing behind earlier packets: its packet, and where the packet's messages stand
pub record IsEntry (earlier ps : List Found) (i : ℕ) (e : Packet) : Type 0 where
  pub packet : Found
  pub in_front : ℕ
  pub at : slice_get ps i ≡ Some packet
  pub before : e.before ≡ total_in earlier + in_front
  pub heard : (j : ℕ) → j < length packet.messages → slice_get (heard_in ps) (in_front + j) ≡ slice_get (heard_of packet) j
  pub last : (n : ℕ) → ((f : Packet) → slice_get (listing_behind earlier ps) (suc i) ≡ Some f → n < f.before) → n < total_in earlier + total_in ps → n < e.before + length packet.messages

heard_length : (p : Found) → length (heard_of p) ≡ length p.messages
heard_length p = length-map p.messages (λ (m : Message). (p.header.channel, m))

first_last : (earlier : List Found) (p : Found) (ps : List Found) (n : ℕ) → ((f : Packet) → slice_get (listing_behind (p ∷ earlier) ps) 0 ≡ Some f → n < f.before)
    → n < total_in earlier + total_in (p ∷ ps) → n < total_in earlier + length p.messages
first_last earlier p [] n next below = omega arith
first_last earlier p (q ∷ ps) n next below = omega (arith, next (listed_behind (p ∷ earlier) q) refl)

pub entry_at : (earlier ps : List Found) (i : ℕ) (e : Packet) → slice_get (listing_behind earlier ps) i ≡ Some e → IsEntry earlier ps i e
entry_at earlier [] i e h = absurd cc
entry_at earlier (p ∷ ps) zero e h =
    let is : listed_behind earlier p ≡ e = cc in
    record {
      packet = p;
      in_front = 0;
      at = refl;
      before = omega (arith, ap (λ (x : Packet). x.before) is);
      heard = λ j lt. ap (slice_get (heard_in (p ∷ ps))) (omega arith) ∙ slice_get-append_left (heard_of p) (heard_in ps) j (omega (arith, heard_length p));
      last = λ n next below. omega (arith, first_last earlier p ps n next below, ap (λ (x : Packet). x.before) is);
    }
entry_at earlier (p ∷ ps) (suc i) e h =
    let r = entry_at (p ∷ earlier) ps i e h in
    record {
      packet = r.packet;
      in_front = length p.messages + r.in_front;
      at = r.at;
      before = omega (arith, r.before);
      heard = λ j lt. slice_get-append_add (heard_of p) (heard_in ps) (r.in_front + j) (length p.messages + r.in_front + j) (omega (arith, heard_length p)) ∙ r.heard j lt;
      last = λ n next below. r.last n next (omega arith);
    }

first_before : (ps : List Found) (e : Packet) → slice_get (listing_behind [] ps) 0 ≡ Some e → e.before ≡ 0
first_before [] e h = absurd cc
first_before (p ∷ ps) e h = let is : listed_behind [] p ≡ e = cc in sym (ap (λ (x : Packet). x.before) is)

-- no message stands before the first packet
pub first_at : (file : List ℕ) (entries : List Packet) (total n : ℕ) (e : Packet) → IsIndex file entries total → slice_get entries 0 ≡ Some e → e.before ≤ n
first_at file entries total n e x h = omega (arith, first_before (indexed file entries) e (rw x.listed at h))

pub within_at : (file : List ℕ) (entries : List Packet) (i : ℕ) (e : Packet) → AreWithin file entries → slice_get entries i ≡ Some e → e.offset + (body_start e.header + e.header.data_length) ≤ length file
within_at file [] i e all h = absurd cc
within_at file (f ∷ es) zero e all h = let is : f ≡ e = cc in subst (λ (y : Packet). y.offset + (body_start y.header + y.header.data_length) ≤ length file) is all.0
within_at file (f ∷ es) (suc i) e all h = within_at file es i e all.1 h

-- the packet that message n stands in, and its place there
pub message_at_entry : (file : List ℕ) (entries : List Packet) (total n i : ℕ) (e : Packet) → IsIndex file entries total → 0 < n → n ≤ total → slice_get entries i ≡ Some e → e.before ≤ n - 1
    → ((f : Packet) → slice_get entries (i + 1) ≡ Some f → n - 1 < f.before)
    → message_numbered (indexed file entries) n ≡ option_map {U = ℕ × Message} (λ (m : Message). (e.header.channel, m)) (slice_get (packet_messages e.header (drop e.offset file)) (n - 1 - e.before))
message_at_entry file entries total zero i e x some most at from next = absurd (omega arith)
message_at_entry file entries total (suc m) i e x some most at from next =
    let listed : slice_get (listing_behind [] (indexed file entries)) i ≡ Some e = rw x.listed at at in
    let following : (f : Packet) → slice_get (listing_behind [] (indexed file entries)) (suc i) ≡ Some f → slice_get entries (i + 1) ≡ Some f = λ f h. ap (slice_get entries) (omega arith) ∙ ap (λ (es : List Packet). slice_get es (suc i)) x.listed ∙ h in
    let r = entry_at [] (indexed file entries) i e listed in
    let same : Some r.packet ≡ Some (found_of file e) = sym r.at ∙ slice_get-map (found_of file) entries i ∙ ap (option_map (found_of file)) at in
    let is : r.packet ≡ found_of file e = cc in
    let before : suc m - 1 < e.before + length r.packet.messages = r.last (suc m - 1) (λ f h. next f (following f h)) (omega (arith, x.counted)) in
    let k : suc m - 1 - e.before < length r.packet.messages = omega arith in
    let here : slice_get (heard_in (indexed file entries)) m ≡ slice_get (heard_of r.packet) (suc m - 1 - e.before) = ap (slice_get (heard_in (indexed file entries))) (omega (arith, r.before)) ∙ r.heard (suc m - 1 - e.before) k in
    here ∙ ap (λ (p : Found). slice_get (heard_of p) (suc m - 1 - e.before)) is ∙ slice_get-map (λ (y : Message). (e.header.channel, y)) (packet_messages e.header (drop e.offset file)) (suc m - 1 - e.before)

heard_total : (ps : List Found) → length (heard_in ps) ≡ total_in ps
heard_total [] = refl
heard_total (p ∷ ps) = omega (arith, length-append (heard_of p) (heard_in ps), heard_length p, heard_total ps)

-- no message has the number 0
pub none_at_zero : (ps : List Found) (n : ℕ) → n ≡ 0 → message_numbered ps n ≡ None
none_at_zero ps n e = ap (message_numbered ps) e

-- no message has a number past the total
pub none_past : (ps : List Found) (n : ℕ) → total_in ps < n → message_numbered ps n ≡ None
none_past ps zero past = refl
none_past ps (suc m) past = slice_get_past (heard_in ps) m (omega (arith, heard_total ps))

-- a message seen with its channel, as the definitions see it
pub seen_with_channel : (channel : ℕ) (seen : Option Seen) (ms : Option Message) → option_map message_of seen ≡ ms
    → option_map {U = ℕ × Message} (λ (x : ℕ × Seen). (x.0, message_of x.1)) (option_map {U = ℕ × Seen} (λ (s : Seen). (channel, s)) seen) ≡ option_map {U = ℕ × Message} (λ (m : Message). (channel, m)) ms
seen_with_channel channel None ms e = ap (option_map {U = ℕ × Message} (λ (m : Message). (channel, m))) e
seen_with_channel channel (Some s) ms e = ap (option_map {U = ℕ × Message} (λ (m : Message). (channel, m))) e

-- what was read at a place of the entries, which were lent as a slice
pub entry_read : (entries lent : List Packet) (i : ℕ) (e : Packet) → lent ≡ entries → i < length lent → e ≡ get_or entries i e → slice_get entries i ≡ Some e
entry_read entries lent i e same within read = slice_get_read entries (length entries) i e refl (rw same at within) read

-- message n, as it was found in its packet
pub message_is : (file : List ℕ) (entries lent : List Packet) (total n i : ℕ) (e : Packet) (seen : Option Seen) → IsIndex file entries total → (n ≡ 0 → ⊥) → n ≤ total
    → lent ≡ entries → i < length lent → e ≡ get_or entries i e → ((f : Packet) → slice_get lent i ≡ Some f → f.before ≤ n - 1) → ((f : Packet) → slice_get lent (i + 1) ≡ Some f → n - 1 < f.before)
    → option_map message_of seen ≡ slice_get (packet_messages e.header (drop e.offset file)) (n - 1 - e.before)
    → option_map {U = ℕ × Message} (λ (x : ℕ × Seen). (x.0, message_of x.1)) (option_map {U = ℕ × Seen} (λ (s : Seen). (e.header.channel, s)) seen) ≡ message_numbered (indexed file entries) n
message_is file entries lent total n i e seen x some most same within read from next found =
    let at = entry_read entries lent i e same within read in
    let low : e.before ≤ n - 1 = from e (ap (λ (es : List Packet). slice_get es i) same ∙ at) in
    let high : (f : Packet) → slice_get entries (i + 1) ≡ Some f → n - 1 < f.before = λ f h. next f (ap (λ (es : List Packet). slice_get es (i + 1)) same ∙ h) in
    seen_with_channel e.header.channel seen (slice_get (packet_messages e.header (drop e.offset file)) (n - 1 - e.before)) found ∙ sym (message_at_entry file entries total n i e x (omega (arith, some)) most at low high)

-- the entry at a place of the recording's packets
pub entry_there : (file : List ℕ) (entries : List Packet) (total : ℕ) (ps : List Found) (i : ℕ) (e : Packet) → IsIndex file entries total → indexed file entries ≡ ps → i < length ps → e ≡ get_or entries i e → slice_get entries i ≡ Some e
entry_there file entries total ps i e x same within read =
    slice_get_read entries (length entries) i e refl (omega (arith, ap length same, length-map entries (found_of file))) read

-- the packet at a place holds the messages that are read at its entry
pub messages_there : (file : List ℕ) (entries : List Packet) (total : ℕ) (ps : List Found) (i : ℕ) (e : Packet) (p : Found) → IsIndex file entries total → indexed file entries ≡ ps → slice_get entries i ≡ Some e → slice_get ps i ≡ Some p
    → packet_messages e.header (drop e.offset file) ≡ p.messages
messages_there file entries total ps i e p x same at there =
    let both : Some p ≡ Some (found_of file e) = sym there ∙ ap (λ (qs : List Found). slice_get qs i) (sym same) ∙ slice_get-map (found_of file) entries i ∙ ap (option_map (found_of file)) at in
    let is : p ≡ found_of file e = cc in
    sym (ap (λ (q : Found). q.messages) is)
