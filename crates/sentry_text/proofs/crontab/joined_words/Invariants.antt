use Rattle.std.proofs.Common.{string_bytes}
use Rattle.std.specs.Str.Iter.{split_whitespace_rest}
use Rattle.sentry_text.proofs.CrontabWords.{IsJoinedSoFar}
use Rattle.sentry_text.proofs.crontab.joined_words.Given as goal

abbrev pub invariant-loop-word : goal.invariant-loop-word
invariant-loop-word l = IsJoinedSoFar l.text (string_bytes l.joined) (split_whitespace_rest l.word-iterator)
