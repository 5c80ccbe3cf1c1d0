use Rattle.m3c_words_laws.proofs.Laws.{asked_reads, reads_asked}
use Rattle.m3c_words_laws.proofs.words_are_read_by_the_sentences.Goals as goal

pub returns : goal.returns
returns c = λ words order texts. (asked_reads words order texts, reads_asked words order)
