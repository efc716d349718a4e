-- The reader and the loader that eight words say.
use Rattle.std.specs.Prelude.{Option, None, Some}
use Rattle.reader.specs.declared.words.Reader.{Reader}
use Rattle.reader.specs.Meanings.{words_of}
use Rattle.file.specs.declared.loader.Loader.{Loader}
use Rattle.file.specs.Meanings.{loader_words}
use Rattle.word_rules.specs.Readers.{ReaderSaid, saying, saying_none}
use Rattle.word_rules.specs.Loaders.{LoaderSaid, saying_loader, saying_no_loader}

abbrev pub reader_at_of : Option Reader → ReaderSaid
reader_at_of (Some reader) = saying (words_of reader)
reader_at_of None = saying_none

abbrev pub loader_at_of : Option Loader → LoaderSaid
loader_at_of (Some loader) = saying_loader (loader_words loader)
loader_at_of None = saying_no_loader
