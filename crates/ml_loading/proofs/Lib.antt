mod Members
mod Rising
mod Sorting
mod Looking
mod Gathering
mod ListsPut
