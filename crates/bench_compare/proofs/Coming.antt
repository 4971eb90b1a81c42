-- The chosen messages that a reading of a file still has in front of it.
use Rattle.std.proofs.Common.{◌≡◌, ℕ, suc, ◌+◌, ◌-◌, List, [], ◌∷◌, ◌++◌, length, drop, Some, Result, Ok, Err, refl, sym, ap, subst, ◌∙◌, arith}
use Rattle.std.proofs.lemmas.List.{drop-drop}
use Rattle.ch11_layout.specs.Stamps.{Recorded}
use Rattle.ch11_reader.specs.declared.error.Refusal.{Refusal}
use Rattle.ch11_reader.specs.declared.packet.Packet.{Packet}
use Rattle.ch11_reader.specs.Contents.{total_in}
use Rattle.ch11_reader.specs.Recording.{Found, packets_from, packets_in}
use Rattle.ch11_reader.proofs.Loop.{behind, in_order}
use Rattle.ch11_stream.specs.declared.fault.StreamFault.{StreamFault}
use Rattle.ch11_stream.specs.Folding.{IsFaultOf}
use Rattle.ch11_stream.specs.Reading.{IsEnd, IsReadingStopped, IsStep, Reading, at_start, last_found}
use Rattle.ch11_stream.specs.Whole.{Steps}
use Rattle.ch11_stream.proofs.Folding.{not_found}
use Rattle.ch11_stream.proofs.Readings.{IsAmid, amid_end, amid_on, amid_start}
use Rattle.bench_select.specs.declared.selection.Selection.{Selection}
use Rattle.bench_compare.specs.Chosen.{chosen_behind, chosen_in, chosen_of}
use Rattle.bench_compare.specs.Passes.{IsUnderWay, to_come}

-- ---- a reading under way

steps_amid : (file : List ℕ) (before now : Reading) (ps : List Packet) → Steps before ps now → IsAmid file before → IsAmid file now
steps_amid file before now [] s a = subst (IsAmid file) s a
steps_amid file before now (p ∷ ps) s a = steps_amid file s.0 now ps s.2 (amid_on file before s.0 p s.1 a)

pub amid_of : (file : List ℕ) (now : Reading) → IsUnderWay file now → IsAmid file now
amid_of file now w = steps_amid file (at_start (Some file)) now w.0 w.1 (amid_start file)

steps_more : (before now next : Reading) (ps : List Packet) (p : Packet) → Steps before ps now → IsStep now next p → Steps before (ps ++ p ∷ []) next
steps_more before now next [] p s step = (next, subst (λ (r : Reading). IsStep r next p) (sym s) step, refl)
steps_more before now next (q ∷ ps) p s step = (s.0, s.1, steps_more s.0 now next ps p s.2 step)

pub way_on : (file : List ℕ) (now next : Reading) (p : Packet) → IsStep now next p → IsUnderWay file now → IsUnderWay file next
way_on file now next p step w = (w.0 ++ p ∷ [], steps_more (at_start (Some file)) now next w.0 p w.1 step)

pub way_start : (file : List ℕ) → IsUnderWay file (at_start (Some file))
way_start file = ([], refl)

-- ---- what is behind it

record HasRest (now : Reading) (all : List Found) : Type 0 where
  rest : List Found
  is : all ≡ in_order now.earlier rest

rest_by : (now : Reading) (read : Result (List Found) Refusal) (all : List Found) → behind now.earlier read ≡ Ok all → HasRest now all
rest_by now (Ok ps) all is = let same : in_order now.earlier ps ≡ all = cc in record { rest = ps; is = sym same }
rest_by now (Err e) all is = absurd cc

has_rest : (file : List ℕ) (now : Reading) (all : List Found) → IsAmid file now → packets_in file ≡ Ok all → HasRest now all
has_rest file now all a read = rest_by now (packets_from a.going.most (length file - length a.rest) a.rest) all (a.going.so_far ∙ read)

drop_order : (earlier rest : List Found) → drop (length earlier) (in_order earlier rest) ≡ rest
drop_order [] rest = refl
drop_order (p ∷ earlier) rest =
    let more : suc (length earlier) ≡ length earlier + 1 = omega arith in
    ap (λ (n : ℕ). drop n (in_order earlier (p ∷ rest))) more ∙ sym (drop-drop 1 (length earlier) (in_order earlier (p ∷ rest))) ∙ ap (drop 1) (drop_order earlier (p ∷ rest))

-- the packet that was read is the first of those that were to come
pub coming_on : (s : Selection) (channel : ℕ) (file : List ℕ) (before now : Reading) (p : Packet) (all : List Found) → IsStep before now p → IsAmid file before → packets_in file ≡ Ok all
    → to_come s channel all before ≡ chosen_of s channel (total_in before.earlier) (last_found now p) ++ to_come s channel all now
coming_on s channel file before now p all step a read =
    let q : Found = last_found now p in
    let r = has_rest file now all (amid_on file before now p step a) read in
    let left : drop (length now.earlier) all ≡ r.rest = ap (drop (length now.earlier)) r.is ∙ drop_order now.earlier r.rest in
    let order : in_order now.earlier r.rest ≡ in_order before.earlier (q ∷ r.rest) = ap (λ (l : List Found). in_order l r.rest) step.entered in
    let next : drop (length before.earlier) all ≡ q ∷ r.rest = ap (drop (length before.earlier)) (r.is ∙ order) ∙ drop_order before.earlier (q ∷ r.rest) in
    let total : total_in before.earlier + length q.messages ≡ total_in now.earlier = omega (arith, ap total_in step.entered) in
    ap (chosen_behind s channel (total_in before.earlier)) next
    ∙ ap (λ (l : List Recorded). chosen_of s channel (total_in before.earlier) q ++ l)
    (ap (λ (n : ℕ). chosen_behind s channel n r.rest) total ∙ ap (chosen_behind s channel (total_in now.earlier)) (sym left))

-- at the end nothing is to come
pub coming_end : (s : Selection) (channel : ℕ) (file : List ℕ) (now last : Reading) (all : List Found) → IsEnd now last → IsAmid file now → packets_in file ≡ Ok all → to_come s channel all now ≡ []
coming_end s channel file now last all e a read =
    let same : Ok all ≡ Ok (in_order now.earlier []) = sym read ∙ amid_end file now last e a in
    let is : all ≡ in_order now.earlier [] = cc in
    ap (chosen_behind s channel (total_in now.earlier)) (ap (drop (length now.earlier)) is ∙ drop_order now.earlier [])

-- at the start all is
pub coming_start : (s : Selection) (channel : ℕ) (file : List ℕ) (all : List Found) → to_come s channel all (at_start (Some file)) ≡ chosen_in s channel all
coming_start s channel file all = refl

-- the packet stands behind all messages so far
pub behind_all : (before now : Reading) (p : Packet) → IsStep before now p → p.before ≡ total_in before.earlier
behind_all before now p step = ap (λ (x : Packet). x.before) step.listed

pub fault_of : (file : List ℕ) (now last : Reading) (f : StreamFault) → IsReadingStopped now last f → IsUnderWay file now → IsFaultOf file f
fault_of file now last f s w = not_found file now last f s (amid_of file now w)
