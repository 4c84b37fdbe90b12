-- Words of a command line, each as its bytes.
pub use Rattle.import_words.specs.OptionWords.{Word}
