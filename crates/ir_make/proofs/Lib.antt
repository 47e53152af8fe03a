mod ShownLines
mod Labels
mod LabelNames
mod ElfFiles
