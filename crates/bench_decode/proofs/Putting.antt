-- Parts of a line that were put, some of which the writer may have got.
use Rattle.std.proofs.Common.{◌≡◌, ℕ, ◌+◌, ◌-◌, Bool, true, false, cond, List, [], ◌∷◌, ◌++◌, length, Option, None, Some, refl, ap, sym, ◌∙◌, arith, append_assoc, append-nil, ◌≤◌}
use Rattle.std.specs.Prelude.{nat_lt, codes, ◌||◌}
use Rattle.signal_dictionary.specs.declared.signals.Signal.{Signal}
use Rattle.signal_values.specs.Readings.{Value}
use Rattle.signal_values.specs.Texts.{told_text}
use Rattle.bench_select.specs.Signals.{value_in}
use Rattle.bench_dump.specs.DumpText.{bus_words}
use Rattle.ch11_layout.specs.Stamps.{Recorded}
use Rattle.ch11_layout.specs.BlockStatus.{has_error, is_transfer, has_format_error, has_response_timeout, has_word_count_error, has_sync_type_error, has_invalid_word_error}
use Rattle.bench_decode.specs.declared.line.Shown.{Shown}
use Rattle.bench_decode.specs.Columns.{Part, text, upto, begin_red, end_red, spaces, drawn, columns_behind}
use Rattle.bench_decode.specs.Waiting.{IsPut, Waiting, begun, drawn_on, told}
use Rattle.bench_decode.specs.BitText.{block_parts, error_parts, kind_names, kind_parts, has_names, named, tells_kind}
use Rattle.bench_decode.specs.MessageText.{between as words_between, end_parts, then_parts, then_words, told_value, value_parts, values_parts}
use Rattle.bench_decode.proofs.Drawing.{columns-append, drawn-append}
use Rattle.bench_decode.proofs.Free.{AreFree, drawn-free, free-append}
use Rattle.bench_decode.proofs.Wording.{put-none, put-then, put-told}

-- what was drawn waits
pub put-drawn : (got : Option (List ℕ)) (w after : Waiting) (ps : List Part) → after ≡ drawn_on w ps → IsPut got w got after (drawn w.shown w.columns ps)
unfolding drawn_on told
put-drawn got w after ps is = rw is record { carried = (put-told got w (told w (drawn w.shown w.columns ps)) (drawn w.shown w.columns ps) refl).carried; shown = refl }

on-behind : (w between : Waiting) (ps qs : List Part) → between ≡ drawn_on w ps → drawn between.shown between.columns qs ≡ drawn w.shown (columns_behind w.columns ps) qs
unfolding drawn_on
on-behind w between ps qs is = ap (λ (x : Waiting). drawn x.shown x.columns qs) is

-- some parts were drawn, and others put behind them
pub put-on : (got gets : Option (List ℕ)) (w between after : Waiting) (ps qs : List Part) → between ≡ drawn_on w ps → IsPut got between gets after (drawn between.shown between.columns qs) → IsPut got w gets after (drawn w.shown w.columns (ps ++ qs))
put-on got gets w between after ps qs is put =
    let first = put-drawn got w between ps is in
    let behind : drawn between.shown between.columns qs ≡ drawn w.shown (columns_behind w.columns ps) qs = on-behind w between ps qs is in
    rw (drawn-append w.shown w.columns ps qs, ← behind) (put-then got got gets w between after (drawn w.shown w.columns ps) (drawn between.shown between.columns qs) first put)

-- a line was begun, and parts put in it
pub put-line : (got mid gets : Option (List ℕ)) (before w after : Waiting) (ps : List Part) → IsPut got before mid w [] → w.columns ≡ 0 → IsPut mid w gets after (drawn w.shown w.columns ps) → IsPut got before gets after (drawn before.shown 0 ps)
put-line got mid gets before w after ps begin none put =
    let same : drawn w.shown w.columns ps ≡ drawn before.shown 0 ps = ap (λ (s : Shown). drawn s w.columns ps) begin.shown ∙ ap (λ (n : ℕ). drawn before.shown n ps) none in
    rw (← same) (put-then got mid gets before w after [] (drawn w.shown w.columns ps) begin put)

-- the bytes are put, whatever the columns are said to be
pub put-begun : (got gets : Option (List ℕ)) (w between after : Waiting) (bytes : List ℕ) → IsPut got w gets between bytes → after ≡ begun between → IsPut got w gets after bytes
put-begun got gets w between after bytes put is = rw is record { carried = put.carried; shown = put.shown }

-- a line was begun, drawn and ended
pub put-whole-line : (got mid : Option (List ℕ)) (before w last after : Waiting) (ps : List Part) → IsPut got before mid w [] → w.columns ≡ 0 → last ≡ drawn_on w ps → after ≡ begun last → IsPut got before mid after (drawn before.shown 0 ps)
put-whole-line got mid before w last after ps begin none is ends = put-begun got mid before last after (drawn before.shown 0 ps) (put-line got mid mid before w last ps begin none (put-drawn mid w last ps is)) ends

-- free parts were drawn behind others, and the line ends
pub put-end : (got gets : Option (List ℕ)) (w between after : Waiting) (ps qs es : List Part) → IsPut got w gets between (drawn w.shown 0 (ps ++ qs)) → AreFree es → after ≡ begun (drawn_on between es) → IsPut got w gets after (drawn w.shown 0 (ps ++ (qs ++ es)))
put-end got gets w between after ps qs es put free is =
    let more = put-drawn gets between (drawn_on between es) es refl in
    let same : drawn between.shown between.columns es ≡ drawn w.shown (columns_behind 0 (ps ++ qs)) es = ap (λ (s : Shown). drawn s between.columns es) put.shown ∙ drawn-free w.shown between.columns (columns_behind 0 (ps ++ qs)) es free in
    let text : drawn w.shown 0 (ps ++ qs) ++ drawn between.shown between.columns es ≡ drawn w.shown 0 (ps ++ (qs ++ es)) =
    ap (λ (l : List ℕ). drawn w.shown 0 (ps ++ qs) ++ l) same ∙ sym (drawn-append w.shown 0 (ps ++ qs) es) ∙ ap (λ (l : List Part). drawn w.shown 0 l) (append_assoc ps qs es) in
    rw (← text) (put-begun got gets w (drawn_on between es) after _ (put-then got gets gets w between (drawn_on between es) (drawn w.shown 0 (ps ++ qs)) (drawn between.shown between.columns es) put more) is)

-- words in their column, and others behind them
pub put-words : (got mid gets : Option (List ℕ)) (w filled between after : Waiting) (bytes : List ℕ) (ts : List Part) → filled ≡ told w (spaces (102 - w.columns)) → IsPut got filled mid between bytes → IsPut mid between gets after (drawn between.shown 0 ts) → AreFree ts
    → IsPut got w gets after (drawn w.shown w.columns (upto 102 ∷ text bytes ∷ ts))
unfolding drawn
put-words got mid gets w filled between after bytes ts is words others free =
    let fill = put-told got w filled (spaces (102 - w.columns)) is in
    let shown : between.shown ≡ w.shown = words.shown ∙ fill.shown in
    let same : drawn between.shown 0 ts ≡ drawn w.shown (w.columns + (102 - w.columns) + length bytes) ts = ap (λ (s : Shown). drawn s 0 ts) shown ∙ drawn-free w.shown 0 (w.columns + (102 - w.columns) + length bytes) ts free in
    rw (← same) (put-then got got gets w filled after (spaces (102 - w.columns)) (bytes ++ drawn between.shown 0 ts) fill (put-then got mid gets filled between after bytes (drawn between.shown 0 ts) words others))

-- a text, and words behind it
pub put-texts : (got gets : Option (List ℕ)) (w told_w after : Waiting) (first second : List ℕ) → told_w ≡ told w first → IsPut got told_w gets after second → IsPut got w gets after (drawn w.shown 0 (text first ∷ text second ∷ []))
unfolding drawn
put-texts got gets w told_w after first second is put =
    rw (append-nil second) (put-then got got gets w told_w after first second (put-told got w told_w first is) put)

pub put-no-parts : (got : Option (List ℕ)) (w : Waiting) (columns : ℕ) → IsPut got w got w (drawn w.shown columns [])
unfolding drawn
put-no-parts got w columns = put-none got w

-- a text alone
pub put-text : (got gets : Option (List ℕ)) (w after : Waiting) (bytes : List ℕ) → IsPut got w gets after bytes → IsPut got w gets after (drawn w.shown 0 (text bytes ∷ []))
unfolding drawn
put-text got gets w after bytes put = rw (append-nil bytes) put

-- ---- values of signals

pub told-value : (got gets : Option (List ℕ)) (w after : Waiting) (signal : Signal) (value : Value) → IsPut got w gets after (told_text signal value) → IsPut got w gets after (drawn w.shown 0 (told_value signal (Some value)))
unfolding told_value
told-value got gets w after signal value put = put-text got gets w after (told_text signal value) put

pub no-value : (got : Option (List ℕ)) (w : Waiting) (signal : Signal) → IsPut got w got w (drawn w.shown 0 (told_value signal None))
unfolding told_value
no-value got w signal = put-no-parts got w 0

free-value : (signal : Signal) (value : Option Value) → AreFree (told_value signal value)
unfolding told_value
free-value signal None = tt
free-value signal (Some value) = tt

pub free-values : (signals : List Signal) (channel : ℕ) (m : Recorded) → AreFree (values_parts signals channel m)
unfolding values_parts
free-values [] channel m = tt
free-values (signal ∷ signals) channel m = free-append (value_parts signal channel m) (values_parts signals channel m) (free-value signal (value_in signal channel m)) (free-values signals channel m)

-- the values of some signals were put, and those of these are left
pub record IsValued (got : Option (List ℕ)) (before : Waiting) (gets : Option (List ℕ)) (after : Waiting) (channel : ℕ) (m : Recorded) (signals rest : List Signal) : Type 0 where
  pub more : List ℕ
  pub put : IsPut got before gets after more
  pub whole : more ++ drawn before.shown 0 (values_parts rest channel m) ≡ drawn before.shown 0 (values_parts signals channel m)
  pub room : length after.text + 760 ≤ 65536

pub valued-none : (got : Option (List ℕ)) (w : Waiting) (channel : ℕ) (m : Recorded) (signals : List Signal) → length w.text + 760 ≤ 65536 → IsValued got w got w channel m signals signals
valued-none got w channel m signals room = record { more = []; put = put-none got w; whole = refl; room = room }

pub valued-more : (got mid gets : Option (List ℕ)) (before between after : Waiting) (channel : ℕ) (m : Recorded) (signals rest others : List Signal) (signal : Signal) → IsValued got before mid between channel m signals rest → rest ≡ signal ∷ others
    → IsPut mid between gets after (drawn between.shown 0 (value_parts signal channel m)) → length after.text + 760 ≤ 65536 → IsValued got before gets after channel m signals others
unfolding values_parts
valued-more got mid gets before between after channel m signals rest others signal v is put room = record {
  more = v.more ++ drawn between.shown 0 (value_parts signal channel m);
  put = put-then got mid gets before between after v.more (drawn between.shown 0 (value_parts signal channel m)) v.put put;
  whole =
      append_assoc v.more (drawn between.shown 0 (value_parts signal channel m)) (drawn before.shown 0 (values_parts others channel m))
      ∙ ap (λ (s : Shown). v.more ++ (drawn s 0 (value_parts signal channel m) ++ drawn before.shown 0 (values_parts others channel m))) v.put.shown
      ∙ ap (λ (l : List ℕ). v.more ++ (drawn before.shown 0 (value_parts signal channel m) ++ l)) (drawn-free before.shown 0 (columns_behind 0 (value_parts signal channel m)) (values_parts others channel m) (free-values others channel m))
      ∙ ap (λ (l : List ℕ). v.more ++ l) (sym (drawn-append before.shown 0 (value_parts signal channel m) (values_parts others channel m)))
      ∙ ap (λ (ss : List Signal). v.more ++ drawn before.shown 0 (values_parts ss channel m)) (sym is)
      ∙ v.whole;
  room = room;
}

pub valued-all : (got gets : Option (List ℕ)) (before after : Waiting) (channel : ℕ) (m : Recorded) (signals rest : List Signal) → IsValued got before gets after channel m signals rest → length rest ≡ 0 → IsPut got before gets after (drawn before.shown 0 (values_parts signals channel m))
unfolding values_parts drawn
valued-all got gets before after channel m signals [] v none = rw (← v.whole, append-nil v.more) v.put
valued-all got gets before after channel m signals (signal ∷ rest) v none = absurd (omega arith)

-- free parts behind others
pub put-free : (got mid gets : Option (List ℕ)) (w between after : Waiting) (ps qs es : List Part) → IsPut got w mid between (drawn w.shown 0 (ps ++ qs)) → IsPut mid between gets after (drawn between.shown 0 es) → AreFree es → IsPut got w gets after (drawn w.shown 0 (ps ++ (qs ++ es)))
put-free got mid gets w between after ps qs es put more free =
    let same : drawn between.shown 0 es ≡ drawn w.shown (columns_behind 0 (ps ++ qs)) es = ap (λ (s : Shown). drawn s 0 es) put.shown ∙ drawn-free w.shown 0 (columns_behind 0 (ps ++ qs)) es free in
    let whole : drawn w.shown 0 (ps ++ qs) ++ drawn between.shown 0 es ≡ drawn w.shown 0 (ps ++ (qs ++ es)) =
    ap (λ (l : List ℕ). drawn w.shown 0 (ps ++ qs) ++ l) same ∙ sym (drawn-append w.shown 0 (ps ++ qs) es) ∙ ap (λ (l : List Part). drawn w.shown 0 l) (append_assoc ps qs es) in
    rw (← whole) (put-then got mid gets w between after (drawn w.shown 0 (ps ++ qs)) (drawn between.shown 0 es) put more)

-- ---- parts that are free

pub free-then : (m : Recorded) (places : ℕ × ℕ) → AreFree (then_parts m places)
unfolding then_parts then_words
free-then m places = by (nat_lt places.0 places.1)
  where
    by : (b : Bool) → AreFree (cond b (text (codes " then") ∷ text (bus_words (words_between m.bytes places.0 places.1)) ∷ []) [])
    by true = tt
    by false = tt

free-named : (b : Bool) (name : List ℕ) → AreFree (named b name)
unfolding named
free-named true name = tt
free-named false name = tt

free-kind_names : (block : ℕ) → AreFree (kind_names block)
unfolding kind_names
free-kind_names block =
    free-append (named (has_format_error block) (codes " format_error")) _ (free-named (has_format_error block) (codes " format_error"))
    (free-append (named (has_response_timeout block) (codes " response_timeout")) _ (free-named (has_response_timeout block) (codes " response_timeout"))
    (free-append (named (has_word_count_error block) (codes " word_count_error")) _ (free-named (has_word_count_error block) (codes " word_count_error"))
    (free-append (named (has_sync_type_error block) (codes " sync_type_error")) _ (free-named (has_sync_type_error block) (codes " sync_type_error"))
    (free-named (has_invalid_word_error block) (codes " invalid_word_error")))))

free-error : (block : ℕ) → AreFree (error_parts block)
unfolding error_parts
free-error block = by (has_error block)
  where
    by : (b : Bool) → AreFree (cond b (begin_red ∷ text (codes " message_error") ∷ end_red ∷ []) [])
    by true = tt
    by false = tt

free-kinds : (block : ℕ) → AreFree (kind_parts block)
unfolding kind_parts
free-kinds block = by (tells_kind block)
  where
    by : (b : Bool) → AreFree (cond b (begin_red ∷ (kind_names block ++ end_red ∷ [])) [])
    by true = free-append (kind_names block) (end_red ∷ []) (free-kind_names block) tt
    by false = tt

pub free-end : (m : Recorded) → AreFree (end_parts m)
unfolding end_parts block_parts
free-end m =
    free-append (error_parts m.block ++ (named (is_transfer m.block) (codes " terminal_to_terminal") ++ kind_parts m.block)) (text (codes "\n") ∷ [])
    (free-append (error_parts m.block) _ (free-error m.block) (free-append (named (is_transfer m.block) (codes " terminal_to_terminal")) (kind_parts m.block) (free-named (is_transfer m.block) (codes " terminal_to_terminal")) (free-kinds m.block))) tt

-- a block status word that has no bit with a name tells nothing
pub no-names : (block : ℕ) → has_names block ≡ false → block_parts block ≡ []
unfolding block_parts error_parts named kind_parts
no-names block none = by (has_error block) (is_transfer block) (tells_kind block) none
  where
    by : (a b c : Bool) → (a || (b || c)) ≡ false → cond a (begin_red ∷ text (codes " message_error") ∷ end_red ∷ []) [] ++ (cond b (text (codes " terminal_to_terminal") ∷ []) [] ++ cond c (begin_red ∷ (kind_names block ++ end_red ∷ [])) []) ≡ []
    by true b c is = absurd cc
    by false true c is = absurd cc
    by false false true is = absurd cc
    by false false false is = refl
