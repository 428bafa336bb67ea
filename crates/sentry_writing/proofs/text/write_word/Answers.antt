use Rattle.sentry_writing.proofs.Joining.{word_member_wrote}
use Rattle.sentry_writing.proofs.text.write_word.Goals as goal

pub returns : goal.returns
returns c = word_member_wrote _ _ _ _ _ _ c.in_ok-key.ensures c.string.ensures
