-- One pass over the packets of a file.
use Rattle.std.proofs.Common.{◌≡◌, ℕ, ◌+◌, List, [], ◌∷◌, ◌++◌, length, reverse, Ok, Err, refl, sym, ap, ◌∙◌, arith}
use Rattle.std.proofs.lemmas.List.{reverse-append}
use Rattle.ch11_reader.specs.Recording.{Found, found_or_none, packets_in}
use Rattle.ch11_reader.specs.Contents.{total_in}
use Rattle.ch11_reader.specs.Indexed.{found_in}
use Rattle.ch11_reader.proofs.Loop.{in_order}
use Rattle.ch11_stream.specs.declared.fault.StreamFault.{StreamFault}
use Rattle.ch11_stream.specs.declared.fault.StreamFault.TheVariants.{Device, Memory, Refused}
use Rattle.ch11_stream.specs.Folding.{IsFaultOf}
use Rattle.ch11_stream.specs.Reading.{IsEnd, IsReadingStopped, Reading}
use Rattle.ch11_stream.proofs.Readings.{IsAmid, amid_end, amid_stop}

-- one packet more
pub one_behind : (q : Found) (earlier : List Found) → reverse (q ∷ earlier) ≡ reverse earlier ++ q ∷ []
one_behind q earlier = reverse-append (q ∷ []) earlier

total_both : (ps qs : List Found) → total_in (ps ++ qs) ≡ total_in ps + total_in qs
total_both [] qs = omega arith
total_both (p ∷ ps) qs = omega (arith, total_both ps qs)

-- the order does not matter to how many messages there are
pub total_reverse : (earlier : List Found) → total_in (reverse earlier) ≡ total_in earlier
total_reverse [] = refl
total_reverse (q ∷ earlier) = omega (arith, ap total_in (one_behind q earlier), total_both (reverse earlier) (q ∷ []), total_reverse earlier)

-- at the end all packets of the file were read
pub all_found : (file : List ℕ) (now last : Reading) → IsEnd now last → IsAmid file now → (packets_in file ≡ Ok (found_in file)) × (reverse now.earlier ≡ found_in file)
all_found file now last e a =
    let order : in_order now.earlier [] ≡ reverse now.earlier = refl in
    let read : packets_in file ≡ Ok (reverse now.earlier) = amid_end file now last e a ∙ ap Ok order in
    let found : reverse now.earlier ≡ found_in file = sym (ap found_or_none read) in (read ∙ ap Ok found, found)

-- no packet could be read
pub not_found : (file : List ℕ) (now last : Reading) (f : StreamFault) → IsReadingStopped now last f → IsAmid file now → IsFaultOf file f
not_found file now last (Refused r) s a = amid_stop file now last r s a
not_found file now last Memory s a = tt
not_found file now last Device s a = tt
