use Rattle.std.proofs.Common.{rules}
use Rattle.sentry_tables.specs.Spelling.{enumeration, word_cell}
use Rattle.sentry_tables.proofs.Spellings.{text_read}
use Rattle.sentry_tables.proofs.word.AsWordReadCodec.from_node.Goals as goal

pub returns : goal.returns
returns g c =
    text_read (enumeration g.T.Word.of_word g.T.Word.word) (word_cell g.T.Word.word) c.in_ok-ok_or.field-0.now (g.N.Node.data_of c.args.node.now) c.read_word.result (search rules) c.read_word.ensures
