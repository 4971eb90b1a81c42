-- A session goes on line by line.
use Rattle.std.proofs.Common.{◌≡◌, ℕ, ◌<◌, List, [], ◌∷◌, ◌++◌, length, Option, None, Some, IfSome, inl, refl, sym, ap, ◌∙◌, subst, append_assoc, append-nil}
use Rattle.std.specs.Prelude.{Bool, true, false, ◌||◌}
use Rattle.std.proofs.KnownBytes.{Appends-trans, Appends-nil}
use Rattle.std.specs.List.{before_first}
use Rattle.std.specs.Io.KnownBytes.{IsAtEnd}
use Rattle.std.specs.declared.io.ErrorKind.{ErrorKind}
use Rattle.std.specs.Io.BufRead.{take_through, drop_through, DropsThrough}
use Rattle.text_lines.specs.Words.{Text}
use Rattle.job_file.specs.Jobs.{JobState}
use Rattle.bench_report.specs.Reports.{ChannelPart}
use Rattle.text_lines.specs.Lines.{is_line_end, text_lines}
use Rattle.text_lines.proofs.LineLemmas.{text_lines-none}
use Rattle.replay.specs.Moves.{ReplayState}
use Rattle.bench_step.specs.Commands.{asked}
use Rattle.bench_step.specs.Session.{Replies, after_reply, answer_text, is_memory, AreReplies, after_replies, session_text, any_memory}
use Rattle.bench_step.specs.Answering.{IsLineAnswered, IsSession, IsAllRead, MayBeDebugged, IsThrough, IsEnded, IsReaders, IsCutShort, IsBegun, Ends, is_quit, up_to_quit, any_quit, opened_on}
use Rattle.bench_step.specs.declared.manners.Manner.{Manner}
use Rattle.bench_step.specs.declared.replies.Reply.{Reply}
use Rattle.bench_step.proofs.Ending.{end_is, one_more_quit, last_quits, all_to_quit, none_quits}
use Rattle.bench_step.specs.declared.fault.StepFault.{StepFault}
use Rattle.bench_step.specs.declared.fault.StepFault.TheVariants as fault
use Rattle.bench_step.proofs.Lines.{line_read, some_left}

-- one more reply
one_more_reply : (manner : Manner) (s : ReplayState) (lines : List Text) (replies : List Reply) (line : Text) (r : Reply) → AreReplies manner s lines replies
    → Replies (after_replies replies s) (asked manner line) r → AreReplies manner s (lines ++ line ∷ []) (replies ++ r ∷ [])
one_more_reply manner s [] [] line r are this = (this, tt)
one_more_reply manner s [] (q ∷ qs) line r are this = absurd are
one_more_reply manner s (l ∷ ls) [] line r are this = absurd are
one_more_reply manner s (l ∷ ls) (q ∷ qs) line r are this = (are.0, one_more_reply manner (after_reply q s) ls qs line r are.1 this)

one_more_after : (s : ReplayState) (replies : List Reply) (r : Reply) → after_replies (replies ++ r ∷ []) s ≡ after_reply r (after_replies replies s)
one_more_after s [] r = refl
one_more_after s (q ∷ qs) r = one_more_after (after_reply q s) qs r

one_more_text : (manner : Manner) (s : ReplayState) (replies : List Reply) (r : Reply)
    → session_text manner (replies ++ r ∷ []) s ≡ session_text manner replies s ++ answer_text manner r (after_reply r (after_replies replies s))
one_more_text manner s [] r = append-nil (answer_text manner r (after_reply r s))
one_more_text manner s (q ∷ qs) r =
    ap (λ (l : Text). answer_text manner q (after_reply q s) ++ l) (one_more_text manner (after_reply q s) qs r)
    ∙ sym (append_assoc (answer_text manner q (after_reply q s)) (session_text manner qs (after_reply q s)) (answer_text manner r (after_reply r (after_replies qs (after_reply q s)))))

one_more_memory : (replies : List Reply) (r : Reply) → any_memory (replies ++ r ∷ []) ≡ (any_memory replies || is_memory r)
one_more_memory [] r = or_false (is_memory r)
  where
    or_false : (b : Bool) → (b || false) ≡ b
    or_false true = refl
    or_false false = refl
one_more_memory (q ∷ qs) r = go (is_memory q) (one_more_memory qs r)
  where
    go : (b : Bool) → any_memory (qs ++ r ∷ []) ≡ (any_memory qs || is_memory r) → (b || any_memory (qs ++ r ∷ [])) ≡ ((b || any_memory qs) || is_memory r)
    go true is = refl
    go false is = is

-- a session that goes on: no line so far ends it
pub record IsGoingOn (manner : Manner) (s new : ReplayState) (left leaves got gets : Option (List ℕ)) (refused : Bool) : Type 0 where
  pub session : IsSession manner s new left leaves got gets refused
  pub on : any_quit manner session.lines ≡ false

-- no line was read yet
pub begins : (manner : Manner) (s : ReplayState) (left got : Option (List ℕ)) → IsGoingOn manner s s left left got got false
begins manner s left got = record {
  session = record { lines = []; replies = []; read = known left; lawful = tt; after = refl; printed = Appends-nil got; memory = refl };
  on = refl;
}
  where
    known : (left : Option (List ℕ)) → IfSome left (λ text. (rest : List ℕ) × (left ≡ Some rest) × (text_lines text ≡ [] ++ text_lines rest))
    known None = tt
    known (Some text) = (text, refl, refl)

-- the bytes that were read into an empty line
pub line_bytes : (leaves : Option (List ℕ)) (old new bytes : Text) → old ≡ [] → bytes ≡ new → IfSome leaves (λ xs. new ≡ old ++ take_through 10 xs) → IfSome leaves (λ xs. bytes ≡ take_through 10 xs)
line_bytes None old new bytes none same gave = tt
line_bytes (Some xs) old new bytes none same gave = same ∙ gave ∙ ap (λ (l : Text). l ++ take_through 10 xs) none

-- what is known of the lines once one more was read
more_read : (left leaves then : Option (List ℕ)) (lines : List Text) (line bytes : Text) → 0 < length bytes → line ≡ before_first is_line_end bytes
    → IfSome leaves (λ xs. bytes ≡ take_through 10 xs) → DropsThrough leaves then 10
    → IfSome left (λ text. (rest : List ℕ) × (leaves ≡ Some rest) × (text_lines text ≡ lines ++ text_lines rest))
    → IfSome left (λ text. (rest : List ℕ) × (then ≡ Some rest) × (text_lines text ≡ (lines ++ line ∷ []) ++ text_lines rest))
more_read None leaves then lines line bytes some is gave drops so_far = tt
more_read (Some text) None then lines line bytes some is gave drops so_far = cc
more_read (Some text) (Some xs) then lines line bytes some is gave drops so_far =
    let same : xs ≡ so_far.0 = cc in
    let here : 0 < length xs = some_left xs (rw (← gave) some) in
    let first : text_lines xs ≡ line ∷ text_lines (drop_through 10 xs) = line_read xs here ∙ (rw (is, gave) refl) in
    (drop_through 10 xs, drops, so_far.2 ∙ (rw (← same, first) (sym (append_assoc lines (line ∷ []) (text_lines (drop_through 10 xs))))))

-- one more line was read and answered
goes_on : (manner : Manner) (s mid new : ReplayState) (left leaves then got gets last : Option (List ℕ)) (line bytes : Text) (before this after ends : Bool)
    → IsSession manner s mid left leaves got gets before
    → 0 < length bytes → line ≡ before_first is_line_end bytes → IfSome leaves (λ xs. bytes ≡ take_through 10 xs) → DropsThrough leaves then 10
    → IsLineAnswered manner mid new line gets last this ends → after ≡ (before || this) → IsSession manner s new left then got last after
goes_on manner s mid new left leaves then got gets last line bytes before this after ends h some is gave drops a both = record {
  lines = h.lines ++ line ∷ [];
  replies = h.replies ++ a.reply ∷ [];
  read = more_read left leaves then h.lines line bytes some is gave drops h.read;
  lawful = one_more_reply manner s h.lines h.replies line a.reply h.lawful (rw (← h.after) a.lawful);
  after = a.after ∙ (rw h.after (sym (one_more_after s h.replies a.reply)));
  printed = rw (one_more_text manner s h.replies a.reply, ← h.after, ← a.after) (Appends-trans got gets last (session_text manner h.replies s) (answer_text manner a.reply new) h.printed a.printed);
  memory = both ∙ (rw (h.memory, a.memory) (sym (one_more_memory h.replies a.reply)));
}

-- whether a line that was answered ends the session
ends_is : (manner : Manner) (old new : ReplayState) (line : Text) (got gets : Option (List ℕ)) (refused ends : Bool) → IsLineAnswered manner old new line got gets refused ends
    → is_quit (asked manner line) ≡ ends
ends_is manner old new line got gets refused ends a = end_is old (asked manner line) a.reply a.lawful ∙ sym a.end

-- one more line, which does not end it
pub still_on : (manner : Manner) (s mid new : ReplayState) (left leaves then got gets last : Option (List ℕ)) (line bytes : Text) (before this after ends : Bool)
    → IsGoingOn manner s mid left leaves got gets before → ends ≡ false
    → 0 < length bytes → line ≡ before_first is_line_end bytes → IfSome leaves (λ xs. bytes ≡ take_through 10 xs) → DropsThrough leaves then 10
    → IsLineAnswered manner mid new line gets last this ends → after ≡ (before || this) → IsGoingOn manner s new left then got last after
unfolding goes_on
still_on manner s mid new left leaves then got gets last line bytes before this after ends h other some is gave drops a both = record {
  session = goes_on manner s mid new left leaves then got gets last line bytes before this after ends h.session some is gave drops a both;
  on = one_more_quit manner h.session.lines line h.on (ends_is manner mid new line gets last this ends a ∙ other);
}

-- what is read where the last line ends it
quit_read : (manner : Manner) (left leaves : Option (List ℕ)) (lines : List Text) (line : Text) → any_quit manner lines ≡ false → is_quit (asked manner line) ≡ true
    → IfSome left (λ text. (rest : List ℕ) × (leaves ≡ Some rest) × (text_lines text ≡ (lines ++ line ∷ []) ++ text_lines rest))
    → IfSome left (λ text. lines ++ line ∷ [] ≡ up_to_quit manner (text_lines text))
quit_read manner None leaves lines line none quits read = tt
quit_read manner (Some text) leaves lines line none quits read =
    sym (ap (up_to_quit manner) read.2 ∙ all_to_quit manner lines line (text_lines read.0) none quits)

-- one more line, which ends it
pub quits : (manner : Manner) (s mid new : ReplayState) (left leaves then got gets last : Option (List ℕ)) (line bytes : Text) (before this after ends : Bool)
    → IsGoingOn manner s mid left leaves got gets before → ends ≡ true
    → 0 < length bytes → line ≡ before_first is_line_end bytes → IfSome leaves (λ xs. bytes ≡ take_through 10 xs) → DropsThrough leaves then 10
    → IsLineAnswered manner mid new line gets last this ends → after ≡ (before || this) → IsAllRead manner s new left then got last after
unfolding goes_on
quits manner s mid new left leaves then got gets last line bytes before this after ends h over some is gave drops a both =
    let here : is_quit (asked manner line) ≡ true = ends_is manner mid new line gets last this ends a ∙ over in
    let session = goes_on manner s mid new left leaves then got gets last line bytes before this after ends h.session some is gave drops a both in
    record {
      session = session;
      all = quit_read manner left then h.session.lines line h.on here session.read;
      ended = λ none. absurd (last_quits manner h.session.lines line here none);
    }

-- the reader is at its end
ends : (manner : Manner) (s mid : ReplayState) (left leaves then got gets : Option (List ℕ)) (refused : Bool) → (h : IsSession manner s mid left leaves got gets refused) → IsAtEnd leaves → DropsThrough leaves then 10
    → (t : IsSession manner s mid left then got gets refused) × (t.lines ≡ h.lines) × IsEnded left then
ends manner s mid None leaves then got gets refused h end drops =
    (record { lines = h.lines; replies = h.replies; read = tt; lawful = h.lawful; after = h.after; printed = h.printed; memory = h.memory }, refl, tt)
ends manner s mid (Some text) None then got gets refused h end drops = let wrong = h.read.1 in cc
ends manner s mid (Some text) (Some xs) then got gets refused h end drops =
    let none : then ≡ Some [] = drops ∙ (rw end refl) in
    let same : h.read.0 ≡ [] = let is = h.read.1 in cc in (
      record {
        lines = h.lines;
        replies = h.replies;
        read = ([], none, h.read.2 ∙ (rw same refl));
        lawful = h.lawful;
        after = h.after;
        printed = h.printed;
        memory = h.memory;
      },
      refl,
      none,
    )

-- the lines of a reader whose bytes are known were all answered
all_read : (manner : Manner) (s mid : ReplayState) (left leaves got gets : Option (List ℕ)) (refused : Bool) → (h : IsSession manner s mid left leaves got gets refused)
    → any_quit manner h.lines ≡ false → IsEnded left leaves → IfSome left (λ text. h.lines ≡ up_to_quit manner (text_lines text))
all_read manner s mid None leaves got gets refused h on end = tt
all_read manner s mid (Some text) leaves got gets refused h on end =
    let same : h.read.0 ≡ [] = let is = h.read.1 in cc in
    let none : text_lines [] ≡ [] = text_lines-none [] refl in
    let lines : text_lines text ≡ h.lines = h.read.2 ∙ (rw (same, none) (append-nil h.lines)) in
    sym (ap (up_to_quit manner) lines ∙ none_quits manner h.lines on)

-- all lines were answered, of which none ends the session
pub all_lines : (manner : Manner) (s mid : ReplayState) (left leaves then got gets : Option (List ℕ)) (refused : Bool) → IsGoingOn manner s mid left leaves got gets refused
    → IsAtEnd leaves → DropsThrough leaves then 10 → IsAllRead manner s mid left then got gets refused
all_lines manner s mid left leaves then got gets refused h end drops =
    let over = ends manner s mid left leaves then got gets refused h.session end drops in
    let on : any_quit manner over.0.lines ≡ false = rw over.1 h.on in
    record {
      session = over.0;
      all = all_read manner s mid left then got gets refused over.0 on over.2;
      ended = λ none. over.2;
    }

-- a session that its reader cut short
pub cut_short : (manner : Manner) (s last : ReplayState) (left leaves got gets : Option (List ℕ)) (refused : Bool) (kind : ErrorKind) (f : StepFault)
    → IsGoingOn manner s last left leaves got gets refused → IsReaders kind f → IsCutShort manner s left got gets f
cut_short manner s last left leaves got gets refused kind (fault.Refused r) h is = absurd is
cut_short manner s last left leaves got gets refused kind (fault.Mismatch channel number) h is = absurd is
cut_short manner s last left leaves got gets refused kind fault.Memory h is = absurd is
cut_short manner s last left leaves got gets refused kind fault.LineMemory h is =
    record { last = last; leaves = leaves; refused = refused; session = h.session }
cut_short manner s last left leaves got gets refused kind fault.Input h is =
    record { last = last; leaves = leaves; refused = refused; session = h.session }
cut_short manner s last left leaves got gets refused kind fault.Output h is = absurd is

-- a session of all lines, and whether memory was refused for one of them
pub through : (manner known_manner : Manner) (jobs : List JobState) (parts : List ChannelPart) (recording : List ℕ) (s last : ReplayState)
    (left leaves got gets : Option (List ℕ)) (refused known : Bool) → MayBeDebugged jobs parts recording → s ≡ opened_on jobs parts recording → known_manner ≡ manner
    → refused ≡ known → IsAllRead known_manner s last left leaves got gets refused
    → IsThrough manner jobs parts recording left leaves got gets known
through manner known_manner jobs parts recording s last left leaves got gets refused known accepted is same told h =
    record { accepted = accepted; last = last; read = rw (is, same, told) at h }

-- a session that was cut short, of jobs that were accepted
pub begun : (manner known_manner : Manner) (jobs : List JobState) (parts : List ChannelPart) (recording : List ℕ) (s : ReplayState) (left got gets : Option (List ℕ)) (f : StepFault)
    → MayBeDebugged jobs parts recording → s ≡ opened_on jobs parts recording → known_manner ≡ manner → IsCutShort known_manner s left got gets f
    → IsBegun manner jobs parts recording left got gets f
begun manner known_manner jobs parts recording s left got gets f accepted is same h = (
  accepted,
  subst (λ (m : Manner). IsCutShort m (opened_on jobs parts recording) left got gets f) same
      (subst (λ (at : ReplayState). IsCutShort known_manner at left got gets f) is h),
)

-- memory was refused before a line was read
pub no_line : (manner : Manner) (jobs shown : List JobState) (parts : List ChannelPart) (recording : List ℕ) (left got : Option (List ℕ)) → MayBeDebugged shown parts recording
    → Ends manner jobs parts recording left left got got fault.Memory
no_line manner jobs shown parts recording left got accepted = inl (accepted.readable, record { reader = refl; writer = refl })
