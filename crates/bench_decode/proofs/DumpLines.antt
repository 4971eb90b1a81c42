-- Lines as a dump has them, put piece by piece.
use Rattle.std.proofs.Common.{◌≡◌, ℕ, List, [], ◌∷◌, ◌++◌, Option, refl}
use Rattle.std.specs.Prelude.{codes, decimal}
use Rattle.ch11_layout.specs.Stamps.{Recorded}
use Rattle.ch11_reader.specs.Codes.{fault_code}
use Rattle.ch11_reader.specs.declared.skip.Skip.{Skip}
use Rattle.bench_dump.specs.DumpText.{bus_words, message_line, word_digits}
use Rattle.bench_dump.specs.SkippingText.{skip_line}
use Rattle.bench_decode.specs.RecordingText.{dumped}
use Rattle.bench_decode.specs.Waiting.{IsPut, Waiting, begun, told}
use Rattle.bench_decode.proofs.Putting.{put-begun}
use Rattle.bench_decode.proofs.Wording.{put-then, put-told}

-- a text that waits, and more behind it
then-put : (got gets : Option (List ℕ)) (w between after : Waiting) (text more : List ℕ) → between ≡ told w text → IsPut got between gets after more → IsPut got w gets after (text ++ more)
then-put got gets w between after text more is put = put-then got got gets w between after text more (put-told got w between text is) put

-- the end of a line
line-end : (got : Option (List ℕ)) (w after : Waiting) → after ≡ begun (told w (codes "\n")) → IsPut got w got after (codes "\n")
line-end got w after is = put-begun got got w (told w (codes "\n")) after (codes "\n") (put-told got w (told w (codes "\n")) (codes "\n") refl) is

pub message-put : (got mid gets : Option (List ℕ)) (before w0 w1 w2 w3 w4 w5 w6 w7 w8 w9 after : Waiting) (number channel : ℕ) (m : Recorded) → IsPut got before mid w0 []
    → w1 ≡ told w0 (codes "message " ++ decimal number) → w2 ≡ told w1 (codes " channel " ++ decimal channel) → w3 ≡ told w2 (codes " stamp " ++ decimal m.number)
    → w4 ≡ told w3 (codes " block") → w5 ≡ told w4 (32 ∷ word_digits m.block) → w6 ≡ told w5 (codes " gaps") → w7 ≡ told w6 (32 ∷ word_digits m.gaps) → w8 ≡ told w7 (codes " words")
    → IsPut mid w8 gets w9 (bus_words m.bytes) → after ≡ begun (told w9 (codes "\n")) → IsPut got before gets after (message_line number channel (dumped m))
unfolding message_line
message-put got mid gets before w0 w1 w2 w3 w4 w5 w6 w7 w8 w9 after number channel m on e1 e2 e3 e4 e5 e6 e7 e8 words ends =
    let end = codes "\n" in
    let t9 : IsPut mid w8 gets after (bus_words m.bytes ++ end) = put-then mid gets gets w8 w9 after (bus_words m.bytes) end words (line-end gets w9 after ends) in
    let t8 : IsPut mid w7 gets after (codes " words" ++ (bus_words m.bytes ++ end)) = then-put mid gets w7 w8 after (codes " words") (bus_words m.bytes ++ end) e8 t9 in
    let l7 : List ℕ = codes " words" ++ (bus_words m.bytes ++ end) in
    let t7 = then-put mid gets w6 w7 after (32 ∷ word_digits m.gaps) l7 e7 t8 in
    let t6 : IsPut mid w5 gets after ((codes " gaps " ++ word_digits m.gaps) ++ l7) = then-put mid gets w5 w6 after (codes " gaps") ((32 ∷ word_digits m.gaps) ++ l7) e6 t7 in
    let l5 : List ℕ = (codes " gaps " ++ word_digits m.gaps) ++ l7 in
    let t5 = then-put mid gets w4 w5 after (32 ∷ word_digits m.block) l5 e5 t6 in
    let t4 : IsPut mid w3 gets after ((codes " block " ++ word_digits m.block) ++ l5) = then-put mid gets w3 w4 after (codes " block") ((32 ∷ word_digits m.block) ++ l5) e4 t5 in
    let l3 : List ℕ = (codes " block " ++ word_digits m.block) ++ l5 in
    let l2 : List ℕ = (codes " stamp " ++ decimal m.number) ++ l3 in
    let l1 : List ℕ = (codes " channel " ++ decimal channel) ++ l2 in
    let t3 : IsPut mid w2 gets after l2 = then-put mid gets w2 w3 after (codes " stamp " ++ decimal m.number) l3 e3 t4 in
    let t2 : IsPut mid w1 gets after l1 = then-put mid gets w1 w2 after (codes " channel " ++ decimal channel) l2 e2 t3 in
    let t1 : IsPut mid w0 gets after ((codes "message " ++ decimal number) ++ l1) = then-put mid gets w0 w1 after (codes "message " ++ decimal number) l1 e1 t2 in
    put-then got mid gets before w0 after [] ((codes "message " ++ decimal number) ++ l1) on t1

pub skip-put : (got mid gets : Option (List ℕ)) (before w0 w1 w2 w3 w4 after : Waiting) (s : Skip) → IsPut got before mid w0 []
    → w1 ≡ told w0 (codes "skipped " ++ decimal s.offset) → w2 ≡ told w1 (codes " length " ++ decimal s.length) → w3 ≡ told w2 (codes " ")
    → IsPut mid w3 gets w4 (fault_code s.fault) → after ≡ begun (told w4 (codes "\n")) → IsPut got before gets after (skip_line s)
unfolding skip_line
skip-put got mid gets before w0 w1 w2 w3 w4 after s on e1 e2 e3 fault ends =
    let end = codes "\n" in
    let code : List ℕ = fault_code s.fault ++ end in
    let t4 : IsPut mid w3 gets after code = put-then mid gets gets w3 w4 after (fault_code s.fault) end fault (line-end gets w4 after ends) in
    let l2 : List ℕ = codes " " ++ code in
    let t3 : IsPut mid w2 gets after l2 = then-put mid gets w2 w3 after (codes " ") code e3 t4 in
    let l1 : List ℕ = (codes " length " ++ decimal s.length) ++ l2 in
    let t2 : IsPut mid w1 gets after l1 = then-put mid gets w1 w2 after (codes " length " ++ decimal s.length) l2 e2 t3 in
    let t1 : IsPut mid w0 gets after ((codes "skipped " ++ decimal s.offset) ++ l1) = then-put mid gets w0 w1 after (codes "skipped " ++ decimal s.offset) l1 e1 t2 in
    put-then got mid gets before w0 after [] ((codes "skipped " ++ decimal s.offset) ++ l1) on t1
