pub mod Laws
mod Lists
mod Digits
mod Spaces
mod Named
mod Children
mod Noted
mod Rows
mod Judged
mod Adding
mod Copied
mod Finding
mod Leading
mod Whole
