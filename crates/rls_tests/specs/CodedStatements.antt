-- The JSON of statements and replies.
use Rattle.std.specs.Prelude.{◌≡◌, ℕ, List, codes}
use Rattle.std.proofs.Common.{◌⊎◌, inl, inr, refl}
use Rattle.rls_codec.specs.Looking.{by_word}
use Rattle.rls_codec.specs.Codec.{Codec}
use Rattle.rls_codec.specs.Codecs.{natural, text, list_of, via}
use Rattle.rls_codec.specs.Arrays.{part, no_more, choice, no_choice, chosen, tuple}
use Rattle.rls_codec.specs.Objects.{field, no_fields, record_of}
use Rattle.rls_tests.specs.CodedValues.{datum}
use Rattle.rls_tests.specs.CodedRefusals.{refusal}
use Rattle.rls_tests.specs.declared.coded_values.Datum.{Datum}
use Rattle.rls_tests.specs.declared.coded_refusals.Refusal.{Refusal}
use Rattle.rls_tests.specs.declared.coded_statements.Reply.{Reply}
use Rattle.rls_tests.specs.declared.coded_statements.Reply.TheVariants.{Done, Count, Rows, Refused}
use Rattle.rls_tests.specs.declared.coded_statements.Statement.{Statement}

-- a reply, as one of its shapes
abbrev pub ReplyShape : Type 0
ReplyShape = Unit {0} ⊎ ((ℕ × Unit {0}) ⊎ ((List (List Datum) × Unit {0}) ⊎ ((Refusal × Unit {0}) ⊎ ⊥)))

abbrev pub reply_to : Reply → ReplyShape
reply_to Done = inl tt
reply_to (Count n) = inr (inl (n, tt))
reply_to (Rows rows) = inr (inr (inl (rows, tt)))
reply_to (Refused r) = inr (inr (inr (inl (r, tt))))

abbrev pub reply_from : ReplyShape → Reply
reply_from (inl u) = Done
reply_from (inr (inl p)) = Count p.0
reply_from (inr (inr (inl p))) = Rows p.0
reply_from (inr (inr (inr (inl p)))) = Refused p.0
reply_from (inr (inr (inr (inr e)))) = absurd e

pub reply_same : (r : Reply) → reply_from (reply_to r) ≡ r
reply_same Done = refl
reply_same (Count n) = refl
reply_same (Rows rows) = refl
reply_same (Refused r) = refl

-- a word, and what belongs to it
abbrev pub reply : Codec Reply
reply = via reply_to reply_from reply_same
    (tuple (chosen (choice (by_word (codes "done")) no_more (choice (by_word (codes "count")) (part natural no_more)
    (choice (by_word (codes "rows")) (part (list_of (list_of datum)) no_more) (choice (by_word (codes "refused")) (part refusal no_more) no_choice refl) refl) refl) refl)))

-- a statement
abbrev pub statement : Codec Statement
statement = via (λ s. (s.reply, (s.text, tt))) (λ p. record { reply = p.0; text = p.1.0 }) (λ s. refl)
    (record_of (field (codes "reply") reply (field (codes "text") text no_fields refl) refl))
