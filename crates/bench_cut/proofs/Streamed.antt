-- A recording that is cut as its packets come.
use Rattle.std.proofs.Common.{◌≡◌, ℕ, ◌+◌, ◌-◌, Bool, true, false, cond, ltb, ◌||◌, List, [], ◌∷◌, ◌++◌, length, take, drop, reverse, replicate, get_or, Option, Some, Ok, refl, sym, ap, subst, ◌∙◌, append_assoc, append-nil, arith}
use Rattle.std.proofs.Math.Bool.{or-false, or_assoc}
use Rattle.std.proofs.lemmas.List.{get_or-replicate}
use Rattle.std.specs.Io.KnownBytes.{Appends}
use Rattle.ch11_reader.specs.declared.packet.Packet.{Packet}
use Rattle.ch11_reader.specs.Contents.{total_in}
use Rattle.ch11_reader.specs.Recording.{Found}
use Rattle.ch11_stream.specs.Reading.{IsEnd, IsStep, at_start, last_found}
use Rattle.ch11_stream.specs.WholePackets.{IsWhole, WholeReading}
use Rattle.ch11_stream.proofs.Folding.{all_found, one_behind, total_reverse}
use Rattle.ch11_stream.proofs.Readings.{IsAmid, amid_on, amid_start}
use Rattle.bench_complete.specs.Pieces.{Piece, bytes_of}
use Rattle.bench_complete.proofs.Running.{appends_both, appends_nothing}
use Rattle.bench_select.specs.declared.selection.Selection.{Selection}
use Rattle.bench_cut.specs.declared.losses.ChannelLoss.{ChannelLoss}
use Rattle.bench_cut.specs.Cut.{cut_bytes, cut_pieces, piece_behind, pieces_behind}
use Rattle.bench_cut.specs.Losses.{AreLosses, no_loss}
use Rattle.bench_cut.specs.Packets.{IsRead, part_read, written_behind}
use Rattle.bench_cut.specs.Streaming.{Cuts}
use Rattle.bench_cut.specs.Parts.{Part, chooses, goes_over, part_by, part_of, parts_behind, parts_in}

-- packets in the order of the file, behind others, newest first
abbrev pub onto : List Part → List Part → List Part
onto [] earlier = earlier
onto (p ∷ ps) earlier = onto ps (p ∷ earlier)

onto_more : (ps earlier : List Part) (q : Part) → onto (ps ++ q ∷ []) earlier ≡ q ∷ onto ps earlier
onto_more [] earlier q = refl
onto_more (p ∷ ps) earlier q = onto_more ps (p ∷ earlier) q

-- ---- one packet more

parts_more : (s : Selection) (file : List ℕ) (n : ℕ) (ps : List Found) (q : Found) → parts_behind s file n (ps ++ q ∷ []) ≡ parts_behind s file n ps ++ part_of s file (n + total_in ps) q ∷ []
parts_more s file n [] q = let same : n ≡ n + 0 = omega arith in ap (λ (k : ℕ). part_of s file k q ∷ []) same
parts_more s file n (p ∷ ps) q =
    let total : (n + length p.messages) + total_in ps ≡ n + total_in (p ∷ ps) = omega arith in
    ap (λ (l : List Part). part_of s file n p ∷ l) (parts_more s file (n + length p.messages) ps q ∙ ap (λ (k : ℕ). parts_behind s file (n + length p.messages) ps ++ part_of s file k q ∷ []) total)

abbrev pieces_if : List Part → Part → List Piece
pieces_if earlier q = cond (goes_over q) (piece_behind earlier q ∷ []) []

pieces_more : (earlier ps : List Part) (q : Part) → pieces_behind earlier (ps ++ q ∷ []) ≡ pieces_behind earlier ps ++ pieces_if (onto ps earlier) q
pieces_more earlier [] q = refl
pieces_more earlier (p ∷ ps) q = by (goes_over p) (pieces_behind (p ∷ earlier) (ps ++ q ∷ [])) (pieces_behind (p ∷ earlier) ps) (pieces_if (onto ps (p ∷ earlier)) q) (pieces_more (p ∷ earlier) ps q)
  where
    by : (b : Bool) (xs ys zs : List Piece) → xs ≡ ys ++ zs → cond b (piece_behind earlier p ∷ xs) xs ≡ cond b (piece_behind earlier p ∷ ys) ys ++ zs
    by true xs ys zs e = ap (λ (l : List Piece). piece_behind earlier p ∷ l) e
    by false xs ys zs e = e

bytes_both : (xs ys : List Piece) → bytes_of (xs ++ ys) ≡ bytes_of xs ++ bytes_of ys
bytes_both [] ys = refl
bytes_both (x ∷ xs) ys = ap (λ (l : List ℕ). x.bytes ++ l) (bytes_both xs ys) ∙ sym (append_assoc x.bytes (bytes_of xs) (bytes_of ys))

bytes_one : (b : Bool) (piece : Piece) → bytes_of (cond b (piece ∷ []) []) ≡ cond b piece.bytes []
bytes_one true piece = append-nil piece.bytes
bytes_one false piece = refl

chooses_more : (ps : List Part) (q : Part) → chooses (ps ++ q ∷ []) ≡ (chooses ps || ltb 0 (length q.chosen))
chooses_more [] q = or-false (ltb 0 (length q.chosen))
chooses_more (p ∷ ps) q = ap (λ (b : Bool). ltb 0 (length p.chosen) || b) (chooses_more ps q) ∙ sym (or_assoc (ltb 0 (length p.chosen)) (chooses ps) (ltb 0 (length q.chosen)))

-- the packets so far, newest first
abbrev pub past : Selection → List ℕ → List Found → List Part
past s file ps = onto (parts_in s file ps) []

past_more : (s : Selection) (file : List ℕ) (ps : List Found) (q : Found) → past s file (ps ++ q ∷ []) ≡ part_of s file (0 + total_in ps) q ∷ past s file ps
past_more s file ps q = ap (λ (l : List Part). onto l []) (parts_more s file 0 ps q) ∙ onto_more (parts_in s file ps) [] (part_of s file (0 + total_in ps) q)

cut_more : (s : Selection) (file : List ℕ) (ps : List Found) (q : Found) → cut_bytes s file (ps ++ q ∷ []) ≡ cut_bytes s file ps ++ written_behind (past s file ps) (part_of s file (0 + total_in ps) q)
cut_more s file ps q =
    let part : Part = part_of s file (0 + total_in ps) q in
    ap (λ (l : List Part). bytes_of (pieces_behind [] l)) (parts_more s file 0 ps q)
    ∙ ap bytes_of (pieces_more [] (parts_in s file ps) part)
    ∙ bytes_both (cut_pieces s file ps) (pieces_if (past s file ps) part)
    ∙ ap (λ (l : List ℕ). cut_bytes s file ps ++ l) (bytes_one (goes_over part) (piece_behind (past s file ps) part))

-- ---- as they come

-- the packet that was read is the one of the file
part_is : (s : Selection) (file : List ℕ) (before now : WholeReading) (p : Packet) → IsStep before.reading now.reading p → IsWhole before now p → IsAmid file before.reading
    → part_read s now p ≡ part_of s file (0 + total_in (reverse before.reading.earlier)) (last_found now.reading p)
part_is s file before now p step w a =
    let number : p.before ≡ 0 + total_in (reverse before.reading.earlier) = omega (arith, ap (λ (x : Packet). x.before) step.listed, total_reverse before.reading.earlier) in
    let place : drop (length file - length a.rest) file ≡ drop p.offset file = ap (λ (k : ℕ). drop k file) (sym a.place ∙ sym step.place) in
    let bytes : now.whole ≡ take p.header.packet_length (drop p.offset file) = w.bytes a.rest a.left ∙ ap (take p.header.packet_length) (a.going.place ∙ place) in
    ap (λ (l : List ℕ). part_by s p.before p.header l now.reading.given) bytes ∙ ap (λ (k : ℕ). part_by s k p.header (take p.header.packet_length (drop p.offset file)) now.reading.given) number

pub read_is : (before now : WholeReading) (p : Packet) → IsStep before.reading now.reading p → IsWhole before now p → IsRead now p
read_is before now p step w = record {
  size = w.size;
  packet = w.packet;
  messages = w.messages;
  count = ap (λ (x : Packet). x.count) step.listed;
  few = omega (arith, ap (λ (x : Packet). x.before) step.listed, step.few, ap total_in step.entered);
}

pub record IsCutting (s : Selection) (file : List ℕ) (got gets : Option (List ℕ)) (losses : List ChannelLoss) (selected : Bool) (now : WholeReading) : Type 0 where
  pub amid : IsAmid file now.reading
  pub kept : AreLosses (past s file (reverse now.reading.earlier)) losses
  pub written : Appends got gets (cut_bytes s file (reverse now.reading.earlier))
  pub any : selected ≡ chooses (parts_in s file (reverse now.reading.earlier))

pub losses_start : (losses : List ChannelLoss) → losses ≡ replicate 65536 no_loss → AreLosses [] losses
losses_start losses is channel small = ap (λ (l : List ChannelLoss). get_or l channel no_loss) is ∙ get_or-replicate 65536 channel no_loss no_loss small

pub cut_start : (s : Selection) (file : List ℕ) (got : Option (List ℕ)) (losses : List ChannelLoss) (now : WholeReading) → losses ≡ replicate 65536 no_loss → now ≡ record { reading = at_start (Some file); whole = [] }
    → IsCutting s file got got losses false now
cut_start s file got losses now are is = subst (IsCutting s file got got losses false) (sym is) (record { amid = amid_start file; kept = losses_start losses are; written = appends_nothing got; any = refl })

pub cut_all : (s : Selection) (file : List ℕ) (got gets : Option (List ℕ)) (losses : List ChannelLoss) (selected : Bool) (now last : WholeReading) → IsEnd now.reading last.reading → IsCutting s file got gets losses selected now
    → Cuts s (Ok selected) file got gets
cut_all s file got gets losses selected now last e c =
    let all = all_found file now.reading last.reading e c.amid in
    (all.0, subst (λ (ps : List Found). Appends got gets (cut_bytes s file ps)) all.1 c.written, subst (λ (ps : List Found). selected ≡ chooses (parts_in s file ps)) all.1 c.any)

pub cuts_on : (s : Selection) (file : List ℕ) (got mid gets : Option (List ℕ)) (losses after : List ChannelLoss) (selected any now_selected : Bool) (before now : WholeReading) (p : Packet)
    → IsStep before.reading now.reading p → IsWhole before now p → IsCutting s file got mid losses selected before
    → ((earlier : List Part) → AreLosses earlier losses → AreLosses (part_read s now p ∷ earlier) after)
    → ((earlier : List Part) → AreLosses earlier losses → Appends mid gets (written_behind earlier (part_read s now p)))
    → any ≡ ltb 0 (length (part_read s now p).chosen) → now_selected ≡ (selected || any)
    → IsCutting s file got gets after now_selected now
cuts_on s file got mid gets losses after selected any now_selected before now p step w c kept wrote some chosen =
    let ps : List Found = reverse before.reading.earlier in
    let q : Found = last_found now.reading p in
    let part : Part = part_of s file (0 + total_in ps) q in
    let is : part_read s now p ≡ part = part_is s file before now p step w c.amid in
    let all : reverse now.reading.earlier ≡ ps ++ q ∷ [] = ap reverse step.entered ∙ one_behind q before.reading.earlier in
    record {
      amid = amid_on file before.reading now.reading p step c.amid;
      kept = subst (λ (l : List Part). AreLosses l after) (sym (ap (past s file) all ∙ past_more s file ps q))
          (subst (λ (x : Part). AreLosses (x ∷ past s file ps) after) is (kept (past s file ps) c.kept));
      written = subst (Appends got gets) (sym (ap (cut_bytes s file) all ∙ cut_more s file ps q))
          (appends_both got mid gets (cut_bytes s file ps) (written_behind (past s file ps) part) c.written
          (subst (λ (x : Part). Appends mid gets (written_behind (past s file ps) x)) is (wrote (past s file ps) c.kept)));
      any = chosen ∙ ap (λ (b : Bool). b || any) c.any
          ∙ ap (λ (b : Bool). chooses (parts_in s file ps) || b) (some ∙ ap (λ (x : Part). ltb 0 (length x.chosen)) is)
          ∙ sym (ap (λ (l : List Found). chooses (parts_in s file l)) all ∙ ap chooses (parts_more s file 0 ps q) ∙ chooses_more (parts_in s file ps) part);
    }
