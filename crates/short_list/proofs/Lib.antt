-- The files of this folder.
mod Behind
